-- The nodes of a tree of counts: what one more or one less changes in them on the way up, and the sum of a row of nodes by its ends or halves.
use Rattle.std.proofs.Common.{◌≡◌, ◌≢◌, ℕ, zero, suc, ◌+◌, ◌*◌, ◌-◌, ◌/◌, ◌<◌, ◌≤◌, refl, sym, ap, ◌∙◌, subst, arith, inl, inr, cond, eqb, List, length, length-set, set, get_or}
use Rattle.std.proofs.Common.{get_or-set_same, get_or-set_other}
use Rattle.std.proofs.lemmas.Bool.{cases_eq, eq-eqb, ne_eqb}
use Rattle.std.proofs.lemmas.List.{get_or_default}
use Rattle.simulator_policies.specs.CountTree.{sum_in}
use Rattle.simulator_policies.proofs.Sums.{sum_rows, sum_first}

-- 1 at one place, and 0 at others
pub one-here : (a b : ℕ) → a ≡ b → ◌≡◌ {A = ℕ} (cond (eqb a b) 1 0) 1
one-here a b same = rw (eq-eqb a b same) refl

pub none-here : (a b : ℕ) → a ≢ b → ◌≡◌ {A = ℕ} (cond (eqb a b) 1 0) 0
none-here a b other = rw (ne_eqb a b other) refl

-- a node is at half the index of each of its two
pub half : (n node : ℕ) → cond (eqb n (node / 2)) 1 0 ≡ cond (eqb (2 * n) node) 1 0 + cond (eqb (2 * n + 1) node) 1 0
half n node = elim (cases_eq n (node / 2)) [
  | inl is ↦ elim (cases_eq (2 * n) node) [
    | inl even ↦ omega (arith, one-here n (node / 2) is, one-here (2 * n) node even, none-here (2 * n + 1) node (λ odd. omega (arith, even, odd)))
    | inr odd ↦
        let last : 2 * n + 1 ≡ node = omega (arith, is, odd) in
        omega (arith, one-here n (node / 2) is, none-here (2 * n) node odd, one-here (2 * n + 1) node last)
  ]
  | inr apart ↦ omega (
    arith,
    none-here n (node / 2) apart,
    none-here (2 * n) node (λ even. apart (omega (arith, even))),
    none-here (2 * n + 1) node (λ odd. apart (omega (arith, odd))),
  )
]

-- One more.

one-more : (xs : List ℕ) (node n : ℕ) → node < length xs → get_or (set xs node (get_or xs node 0 + 1)) n 0 ≡ get_or xs n 0 + cond (eqb n node) 1 0
one-more xs node n within = elim (cases_eq n node) [
  | inl is ↦
      let new : get_or (set xs node (get_or xs node 0 + 1)) n 0 ≡ get_or xs node 0 + 1 =
      ap (λ m. get_or (set xs node (get_or xs node 0 + 1)) m 0) is
      ∙ get_or-set_same xs node (get_or xs node 0 + 1) 0 within in
      omega (arith, new, ap (λ m. get_or xs m 0) is, one-here n node is)
  | inr other ↦ omega (arith, get_or-set_other xs node n (get_or xs node 0 + 1) 0 other, none-here n node other)
]

-- a node has to be one more: it is one less than the sum of its two, or than a leaf's new count; the nodes up to it haven't changed
pub record IsAdding (old xs : List ℕ) (blocks leaf node : ℕ) : Type 0 where
  pub within : node < 2 * blocks
  pub long : length xs ≡ 2 * blocks
  pub pairs : (n : ℕ) → 0 < n → n < blocks → get_or xs n 0 + cond (eqb n node) 1 0 ≡ get_or xs (2 * n) 0 + get_or xs (2 * n + 1) 0
  pub leaves : (n : ℕ) → blocks ≤ n → get_or xs n 0 + cond (eqb n node) 1 0 ≡ get_or old n 0 + cond (eqb n leaf) 1 0
  pub fresh : (n : ℕ) → n ≤ node → get_or xs n 0 ≡ get_or old n 0
  pub most : (n : ℕ) → get_or xs n 0 ≤ get_or old n 0 + 1

module _ (old xs : List ℕ) (blocks leaf node : ℕ) (adding : IsAdding old xs blocks leaf node) (some : 0 < node) where
  pub adding-on : IsAdding old (set xs node (get_or xs node 0 + 1)) blocks leaf (node / 2)
  adding-on =
      let long : node < length xs = omega (arith, adding.within, adding.long) in
      let new : (n : ℕ) → get_or (set xs node (get_or xs node 0 + 1)) n 0 ≡ get_or xs n 0 + cond (eqb n node) 1 0 = λ n. one-more xs node n long in
      record {
        within = omega (arith, adding.within);
        long = length-set xs node (get_or xs node 0 + 1) ∙ adding.long;
        pairs = λ n above below. omega (arith, adding.pairs n above below, new n, new (2 * n), new (2 * n + 1), half n node);
        leaves = λ n above. omega (arith, adding.leaves n above, new n, none-here n (node / 2) (λ is. omega (arith, is, above, adding.within)));
        fresh = λ n below. omega (arith, adding.fresh n (omega (arith, below)), new n, none-here n node (λ is. omega (arith, is, below, some)));
        most = λ n. elim (cases_eq n node) [
          | inl is ↦ omega (arith, new n, one-here n node is, adding.fresh n (omega (arith, is)))
          | inr other ↦ omega (arith, new n, none-here n node other, adding.most n)
        ];
      }

  pub adding-read : (count : ℕ) → count ≡ get_or xs node count → IsAdding old (set xs node (count + 1)) blocks leaf (node / 2)
  adding-read count read =
      let same : get_or xs node 0 ≡ count = get_or_default xs node 0 count (omega (arith, adding.within, adding.long)) ∙ sym read in
      subst (λ n. IsAdding old (set xs node (n + 1)) blocks leaf (node / 2)) same adding-on

-- One less.

one-less : (xs : List ℕ) (node n : ℕ) → node < length xs → 0 < get_or xs node 0 → get_or (set xs node (get_or xs node 0 - 1)) n 0 + cond (eqb n node) 1 0 ≡ get_or xs n 0
one-less xs node n within some = elim (cases_eq n node) [
  | inl is ↦
      let new : get_or (set xs node (get_or xs node 0 - 1)) n 0 ≡ get_or xs node 0 - 1 =
      ap (λ m. get_or (set xs node (get_or xs node 0 - 1)) m 0) is
      ∙ get_or-set_same xs node (get_or xs node 0 - 1) 0 within in
      omega (arith, new, some, ap (λ m. get_or xs m 0) is, one-here n node is)
  | inr other ↦ omega (arith, get_or-set_other xs node n (get_or xs node 0 - 1) 0 other, none-here n node other)
]

-- a node has to be one less: it is one more than the sum of its two, or than a leaf's new count
pub record IsRemoving (old xs : List ℕ) (blocks leaf node : ℕ) : Type 0 where
  pub within : node < 2 * blocks
  pub long : length xs ≡ 2 * blocks
  pub pairs : (n : ℕ) → 0 < n → n < blocks → get_or xs n 0 ≡ get_or xs (2 * n) 0 + get_or xs (2 * n + 1) 0 + cond (eqb n node) 1 0
  pub leaves : (n : ℕ) → blocks ≤ n → get_or xs n 0 + cond (eqb n leaf) 1 0 ≡ get_or old n 0 + cond (eqb n node) 1 0
  pub some : 0 < node → 0 < get_or xs node 0
  pub most : (n : ℕ) → get_or xs n 0 ≤ get_or old n 0

module _ (old xs : List ℕ) (blocks leaf node : ℕ) (removing : IsRemoving old xs blocks leaf node) (some : 0 < node) where
  pub removing-on : IsRemoving old (set xs node (get_or xs node 0 - 1)) blocks leaf (node / 2)
  removing-on =
      let long : node < length xs = omega (arith, removing.within, removing.long) in
      let new : (n : ℕ) → get_or (set xs node (get_or xs node 0 - 1)) n 0 + cond (eqb n node) 1 0 ≡ get_or xs n 0 = λ n. one-less xs node n long (removing.some some) in
      record {
        within = omega (arith, removing.within);
        long = length-set xs node (get_or xs node 0 - 1) ∙ removing.long;
        pairs = λ n above below. omega (arith, removing.pairs n above below, new n, new (2 * n), new (2 * n + 1), half n node);
        leaves = λ n above. omega (arith, removing.leaves n above, new n, none-here n (node / 2) (λ is. omega (arith, is, above, removing.within)));
        some = λ above.
            let pair = removing.pairs (node / 2) above (omega (arith, removing.within)) in
            let other : cond (eqb (node / 2) node) 1 0 ≡ 0 = none-here (node / 2) node (λ is. omega (arith, is, some)) in
            elim (cases_eq (2 * (node / 2)) node) [
              | inl even ↦ omega (arith, removing.some some, pair, new (node / 2), other, ap (λ n. get_or xs n 0) even)
              | inr odd ↦
                  let last : 2 * (node / 2) + 1 ≡ node = omega (arith, odd) in
                  omega (arith, removing.some some, pair, new (node / 2), other, ap (λ n. get_or xs n 0) last)
            ];
        most = λ n. omega (arith, new n, removing.most n);
      }

  pub removing-read : (count : ℕ) → count ≡ get_or xs node count → IsRemoving old (set xs node (count - 1)) blocks leaf (node / 2)
  removing-read count read =
      let same : get_or xs node 0 ≡ count = get_or_default xs node 0 count (omega (arith, removing.within, removing.long)) ∙ sym read in
      subst (λ n. IsRemoving old (set xs node (n - 1)) blocks leaf (node / 2)) same removing-on

-- A row of nodes.

module _ (f : ℕ → ℕ) (first end : ℕ) (some : first < end) where
  pub sum-first : sum_in f first (end - first) ≡ f first + sum_in f (first + 1) (end - (first + 1))
  sum-first =
      let long : end - first ≡ suc (end - (first + 1)) = omega (arith, some) in
      let next : suc first ≡ first + 1 = omega arith in
      ap (sum_in f first) long ∙ sum_first f first (end - (first + 1)) ∙ ap (λ m. f first + sum_in f m (end - (first + 1))) next

  pub sum-last : sum_in f first (end - first) ≡ sum_in f first (end - 1 - first) + f (end - 1)
  sum-last =
      let long : end - first ≡ suc (end - 1 - first) = omega (arith, some) in
      let last : first + (end - 1 - first) ≡ end - 1 = omega (arith, some) in
      ap (sum_in f first) long ∙ ap (λ m. sum_in f first (end - 1 - first) + f m) last

-- two in a row
two : (f : ℕ → ℕ) (n : ℕ) → sum_in f n 2 ≡ f n + f (n + 1)
two f n =
    let here : n + 0 ≡ n = omega arith in
    omega (arith, ap f here)

pub sum-halves : (f : ℕ → ℕ) (first end : ℕ) → ((n : ℕ) → 0 < n → n < end → f n ≡ f (2 * n) + f (2 * n + 1)) → 0 < first →
    first ≤ end → sum_in f (2 * first) (2 * end - 2 * first) ≡ sum_in f first (end - first)
sum-halves f first end pairs some ordered =
    let long : 2 * end - 2 * first ≡ 2 * (end - first) = omega (arith, ordered) in
    ap (sum_in f (2 * first)) long ∙ sum_rows f f 2 first (end - first) (λ i from below. pairs i (omega (arith, some, from)) (omega (arith, below, ordered)) ∙ sym (two f (2 * i)))

-- counts behind others
pub sum-shifted : (f : ℕ → ℕ) (by first n : ℕ) → sum_in f (by + first) n ≡ sum_in (λ i. f (by + i)) first n
sum-shifted f by first zero = refl
sum-shifted f by first (suc n) =
    let place : by + first + n ≡ by + (first + n) = omega arith in
    omega (arith, sum-shifted f by first n, ap f place)
