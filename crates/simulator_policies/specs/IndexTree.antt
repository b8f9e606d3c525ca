-- A tree of marks: its second half has a mark for each index, and each node before them is marked if one of its two is.
use Rattle.std.specs.Prelude.{◌≡◌, ℕ, zero, suc, ◌+◌, ◌*◌, ◌<◌, Bool, true, false, ◌||◌, length, get_or}
use Rattle.simulator_policies.specs.declared.index_tree.IndexTree.{IndexTree}

abbrev pub is_marked : {A : Type 0} → IndexTree A → ℕ → Bool
is_marked tree node = get_or tree.marks.items node false

-- whether an index is in the set
abbrev pub has : {A : Type 0} → IndexTree A → ℕ → Bool
has tree index = is_marked tree (tree.leaves + index)

-- the first of the nodes that are this many levels below a node
abbrev pub first_below : ℕ → ℕ → ℕ
first_below zero node = node
first_below (suc levels) node = first_below levels (2 * node)

-- the leaves are one level of the tree, whose first node is 1; node 0 is marked
pub record IsIndexTree {A : Type 0} (tree : IndexTree A) : Type 0 where
  pub some : 0 < tree.leaves
  pub levels : ℕ
  pub leaves : tree.leaves ≡ first_below levels 1
  pub long : length tree.marks.items ≡ 2 * tree.leaves
  pub top : is_marked tree 0 ≡ true
  pub pairs : (node : ℕ) → 0 < node → node < tree.leaves → is_marked tree node ≡ (is_marked tree (2 * node) || is_marked tree (2 * node + 1))
