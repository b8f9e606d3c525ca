-- A tree of counts: its second half has the counts of the blocks, and each node before them the sum of two others.
use Rattle.std.specs.Prelude.{◌≡◌, ℕ, zero, suc, ◌+◌, ◌*◌, ◌<◌, length, get_or}
use Rattle.simulator_policies.specs.declared.count_tree.CountTree.{CountTree}

-- the sum of n numbers from an index on
abbrev pub sum_in : (ℕ → ℕ) → ℕ → ℕ → ℕ
sum_in number first zero = 0
sum_in number first (suc n) = sum_in number first n + number (first + n)

abbrev pub node_of : {A : Type 0} → CountTree A → ℕ → ℕ
node_of tree node = get_or tree.nodes.items node 0

-- the count of a block
abbrev pub count_of : {A : Type 0} → CountTree A → ℕ → ℕ
count_of tree block = node_of tree (tree.blocks + block)

pub record IsTree {A : Type 0} (tree : CountTree A) : Type 0 where
  pub some : 0 < tree.blocks
  pub long : length tree.nodes.items ≡ 2 * tree.blocks
  pub pairs : (node : ℕ) → 0 < node → node < tree.blocks → node_of tree node ≡ node_of tree (2 * node) + node_of tree (2 * node + 1)
