-- The marks of a tree: what one more index or one less changes on the way up, and the last index on the way down.
use Rattle.std.proofs.Common.{◌≡◌, ◌≢◌, ℕ, zero, suc, ◌+◌, ◌*◌, ◌-◌, ◌/◌, ◌<◌, ◌≤◌, Bool, true, false, ◌||◌, refl, sym, ap, ◌∙◌, subst, arith, inl, inr, List, length, length-set, set}
use Rattle.std.proofs.Common.{get_or, get_or-set_same, get_or-set_other}
use Rattle.std.proofs.lemmas.Bool.{cases_eq, cases_lt, cases_Bool, or_left, or_right, or_from, or_parts, true≢false}
use Rattle.std.proofs.lemmas.List.{get_or_default, get_or_past}
use Rattle.simulator_policies.specs.IndexTree.{first_below}

-- the mark of a node
abbrev pub mark : List Bool → ℕ → Bool
mark xs node = get_or xs node false

-- a mark that was written
here : (xs : List Bool) (node n : ℕ) (b : Bool) → node < length xs → n ≡ node → mark (set xs node b) n ≡ b
here xs node n b within is = ap (mark (set xs node b)) is ∙ get_or-set_same xs node b false within

there : (xs : List Bool) (node n : ℕ) (b : Bool) → n ≢ node → mark (set xs node b) n ≡ mark xs n
there xs node n b other = get_or-set_other xs node n b false other

-- a mark that was read
pub read : (xs : List Bool) (node : ℕ) (b : Bool) → node < length xs → b ≡ get_or xs node b → mark xs node ≡ b
read xs node b within is = get_or_default xs node false b within ∙ sym is

-- one of two marks
both : (a b c d : Bool) → a ≡ c → b ≡ d → (a || b) ≡ (c || d)
both a b c d p q = cc

-- One more index.

-- a node has to be marked, as one of the two below it is, or as it is the leaf
pub record IsMarking (old xs : List Bool) (leaves leaf node : ℕ) : Type 0 where
  pub within : node < 2 * leaves
  pub own : leaves ≤ node → node ≡ leaf
  pub long : length xs ≡ 2 * leaves
  pub top : mark xs 0 ≡ true
  pub pairs : (n : ℕ) → 0 < n → n < leaves → n ≢ node → mark xs n ≡ (mark xs (2 * n) || mark xs (2 * n + 1))
  pub below : 0 < node → node < leaves → (mark xs (2 * node) || mark xs (2 * node + 1)) ≡ true
  pub others : (n : ℕ) → leaves ≤ n → n ≢ leaf → mark xs n ≡ mark old n
  pub added : leaf ≢ node → mark xs leaf ≡ true

pub marking_starts : (old : List Bool) (leaves index : ℕ) → index < leaves → length old ≡ 2 * leaves → mark old 0 ≡ true
    → ((n : ℕ) → 0 < n → n < leaves → mark old n ≡ (mark old (2 * n) || mark old (2 * n + 1))) → IsMarking old old leaves (leaves + index) (leaves + index)
marking_starts old leaves index inside long top pairs = record {
  within = omega (arith, inside);
  own = λ above. refl;
  long = long;
  top = top;
  pairs = λ n above below other. pairs n above below;
  below = λ above below. absurd (omega (arith, below));
  others = λ n above other. refl;
  added = λ apart. absurd (apart refl);
}

module _ (old xs : List Bool) (leaves leaf node : ℕ) (marking : IsMarking old xs leaves leaf node) (unmarked : mark xs node ≡ false) where
  pub not_top : 0 < node
  not_top = elim (cases_eq node 0) [
    | inl is ↦ absurd (true≢false (sym marking.top ∙ sym (ap (mark xs) is) ∙ unmarked))
    | inr other ↦ omega (arith, other)
  ]

  in_list : node < length xs
  in_list = omega (arith, marking.within, marking.long)

  pub marking_on : IsMarking old (set xs node true) leaves leaf (node / 2)
  marking_on = record {
    within = omega (arith, marking.within);
    own = λ above. absurd (omega (arith, above, marking.within));
    long = length-set xs node true ∙ marking.long;
    top = there xs node 0 true (λ is. absurd (omega (arith, is, not_top))) ∙ marking.top;
    pairs = λ n above inside other.
        let even : mark (set xs node true) (2 * n) ≡ mark xs (2 * n) = there xs node (2 * n) true (λ is. other (omega (arith, is))) in
        let odd : mark (set xs node true) (2 * n + 1) ≡ mark xs (2 * n + 1) = there xs node (2 * n + 1) true (λ is. other (omega (arith, is))) in
        elim (cases_eq n node) [
          | inl is ↦
              let two : (mark xs (2 * n) || mark xs (2 * n + 1)) ≡ true = subst (λ m. (mark xs (2 * m) || mark xs (2 * m + 1)) ≡ true) (sym is) (marking.below not_top (omega (arith, is, inside))) in
              here xs node n true in_list is ∙ sym (both _ _ _ _ even odd ∙ two)
          | inr apart ↦ there xs node n true apart ∙ marking.pairs n above inside apart ∙ sym (both _ _ _ _ even odd)
        ];
    below = λ above inside. elim (cases_eq (2 * (node / 2)) node) [
      | inl even ↦ or_left (mark (set xs node true) (2 * (node / 2))) (mark (set xs node true) (2 * (node / 2) + 1)) (here xs node (2 * (node / 2)) true in_list even)
      | inr odd ↦ or_right (mark (set xs node true) (2 * (node / 2))) (mark (set xs node true) (2 * (node / 2) + 1)) (here xs node (2 * (node / 2) + 1) true in_list (omega (arith, odd)))
    ];
    others = λ n above other. there xs node n true (λ is. other (is ∙ marking.own (omega (arith, above, is)))) ∙ marking.others n above other;
    added = λ apart. elim (cases_eq leaf node) [
      | inl is ↦ here xs node leaf true in_list is
      | inr other ↦ there xs node leaf true other ∙ marking.added other
    ];
  }

-- no node has to be marked any more
pub record IsMarked (old xs : List Bool) (leaves leaf : ℕ) : Type 0 where
  pub long : length xs ≡ 2 * leaves
  pub top : mark xs 0 ≡ true
  pub pairs : (n : ℕ) → 0 < n → n < leaves → mark xs n ≡ (mark xs (2 * n) || mark xs (2 * n + 1))
  pub others : (n : ℕ) → leaves ≤ n → n ≢ leaf → mark xs n ≡ mark old n
  pub added : mark xs leaf ≡ true

pub marking_done : (old xs : List Bool) (leaves leaf node : ℕ) → IsMarking old xs leaves leaf node → mark xs node ≡ true → IsMarked old xs leaves leaf
marking_done old xs leaves leaf node marking marked = record {
  long = marking.long;
  top = marking.top;
  pairs = λ n above inside. elim (cases_eq n node) [
    | inl is ↦ ap (mark xs) is ∙ marked ∙ sym (subst (λ m. (mark xs (2 * m) || mark xs (2 * m + 1)) ≡ true) (sym is) (marking.below (omega (arith, is, above)) (omega (arith, is, inside))))
    | inr other ↦ marking.pairs n above inside other
  ];
  others = marking.others;
  added = elim (cases_eq leaf node) [ inl is ↦ ap (mark xs) is ∙ marked | inr other ↦ marking.added other ];
}

-- One index less.

-- a node has to be unmarked, unless one of the two below it is marked
pub record IsUnmarking (old xs : List Bool) (leaves leaf node : ℕ) : Type 0 where
  pub within : node < leaves
  pub leaf_within : leaves ≤ leaf
  pub long : length xs ≡ 2 * leaves
  pub top : mark xs 0 ≡ true
  pub pairs : (n : ℕ) → 0 < n → n < leaves → n ≢ node → mark xs n ≡ (mark xs (2 * n) || mark xs (2 * n + 1))
  pub marked : mark xs node ≡ true
  pub others : (n : ℕ) → leaves ≤ n → n ≢ leaf → mark xs n ≡ mark old n
  pub removed : mark xs leaf ≡ false

-- if a node is marked, so is the one above it
above_marked : (xs : List Bool) (node : ℕ) → mark xs 0 ≡ true → mark xs node ≡ true
    → (0 < node / 2 → mark xs (node / 2) ≡ (mark xs (2 * (node / 2)) || mark xs (2 * (node / 2) + 1))) → mark xs (node / 2) ≡ true
above_marked xs node top marked pair = elim (cases_eq (node / 2) 0) [
  | inl is ↦ ap (mark xs) is ∙ top
  | inr other ↦
      let one : (mark xs (2 * (node / 2)) || mark xs (2 * (node / 2) + 1)) ≡ true = elim (cases_eq (2 * (node / 2)) node) [
        | inl even ↦ or_left (mark xs (2 * (node / 2))) (mark xs (2 * (node / 2) + 1)) (ap (mark xs) even ∙ marked)
        | inr odd ↦
            let last : 2 * (node / 2) + 1 ≡ node = omega (arith, odd) in
            or_right (mark xs (2 * (node / 2))) (mark xs (2 * (node / 2) + 1)) (ap (mark xs) last ∙ marked)
      ] in
      pair (omega (arith, other)) ∙ one
]

module _ (old xs : List Bool) (leaves leaf node : ℕ) (unmarking : IsUnmarking old xs leaves leaf node) (none : (mark xs (2 * node) || mark xs (2 * node + 1)) ≡ false) where
  pub under_top : 0 < node
  under_top = elim (cases_eq node 0) [
    | inl is ↦
        let twice : 2 * node ≡ 0 = omega (arith, is) in
        let zeroth : mark xs (2 * node) ≡ true = ap (mark xs) twice ∙ unmarking.top in
        absurd (true≢false (sym zeroth ∙ (or_parts (mark xs (2 * node)) (mark xs (2 * node + 1)) none).0))
    | inr other ↦ omega (arith, other)
  ]

  node_in_list : node < length xs
  node_in_list = omega (arith, unmarking.within, unmarking.long)

  pub unmarking_on : IsUnmarking old (set xs node false) leaves leaf (node / 2)
  unmarking_on = record {
    within = omega (arith, unmarking.within);
    leaf_within = unmarking.leaf_within;
    long = length-set xs node false ∙ unmarking.long;
    top = there xs node 0 false (λ is. absurd (omega (arith, is, under_top))) ∙ unmarking.top;
    pairs = λ n above inside other.
        let even : mark (set xs node false) (2 * n) ≡ mark xs (2 * n) = there xs node (2 * n) false (λ is. other (omega (arith, is))) in
        let odd : mark (set xs node false) (2 * n + 1) ≡ mark xs (2 * n + 1) = there xs node (2 * n + 1) false (λ is. other (omega (arith, is))) in
        elim (cases_eq n node) [
          | inl is ↦
              let two : (mark xs (2 * n) || mark xs (2 * n + 1)) ≡ false = subst (λ m. (mark xs (2 * m) || mark xs (2 * m + 1)) ≡ false) (sym is) none in
              here xs node n false node_in_list is ∙ sym (both _ _ _ _ even odd ∙ two)
          | inr apart ↦ there xs node n false apart ∙ unmarking.pairs n above inside apart ∙ sym (both _ _ _ _ even odd)
        ];
    marked =
        let apart : node / 2 ≢ node = λ is. absurd (omega (arith, is, under_top)) in
        there xs node (node / 2) false apart
        ∙ above_marked xs node unmarking.top unmarking.marked (λ above. unmarking.pairs (node / 2) above (omega (arith, unmarking.within)) apart);
    others = λ n above other. there xs node n false (λ is. absurd (omega (arith, is, above, unmarking.within))) ∙ unmarking.others n above other;
    removed = there xs node leaf false (λ is. absurd (omega (arith, is, unmarking.within, unmarking.leaf_within))) ∙ unmarking.removed;
  }

-- no node has to be unmarked any more
pub record IsUnmarked (old xs : List Bool) (leaves leaf : ℕ) : Type 0 where
  pub long : length xs ≡ 2 * leaves
  pub top : mark xs 0 ≡ true
  pub pairs : (n : ℕ) → 0 < n → n < leaves → mark xs n ≡ (mark xs (2 * n) || mark xs (2 * n + 1))
  pub others : (n : ℕ) → leaves ≤ n → n ≢ leaf → mark xs n ≡ mark old n
  pub removed : mark xs leaf ≡ false

pub unmarking_done : (old xs : List Bool) (leaves leaf node : ℕ) → IsUnmarking old xs leaves leaf node → (mark xs (2 * node) || mark xs (2 * node + 1)) ≡ true → IsUnmarked old xs leaves leaf
unmarking_done old xs leaves leaf node unmarking marked = record {
  long = unmarking.long;
  top = unmarking.top;
  pairs = λ n above inside. elim (cases_eq n node) [
    | inl is ↦ ap (mark xs) is ∙ unmarking.marked ∙ sym (subst (λ m. (mark xs (2 * m) || mark xs (2 * m + 1)) ≡ true) (sym is) marked)
    | inr other ↦ unmarking.pairs n above inside other
  ];
  others = unmarking.others;
  removed = unmarking.removed;
}

-- the leaf is unmarked, and then the node above it has to be
pub unmarking_starts : (old : List Bool) (leaves leaf : ℕ) → leaves ≤ leaf → leaf < 2 * leaves → length old ≡ 2 * leaves → mark old 0 ≡ true
    → ((n : ℕ) → 0 < n → n < leaves → mark old n ≡ (mark old (2 * n) || mark old (2 * n + 1))) → mark old leaf ≡ true → IsUnmarking old (set old leaf false) leaves leaf (leaf / 2)
unmarking_starts old leaves leaf from to long top pairs marked =
    let inside : leaf < length old = omega (arith, to, long) in
    let apart : leaf / 2 ≢ leaf = λ is. absurd (omega (arith, is, from, to)) in
    record {
      within = omega (arith, to);
      leaf_within = from;
      long = length-set old leaf false ∙ long;
      top = there old leaf 0 false (λ is. absurd (omega (arith, is, from, to))) ∙ top;
      pairs = λ n above below other.
          let even : mark (set old leaf false) (2 * n) ≡ mark old (2 * n) = there old leaf (2 * n) false (λ is. other (omega (arith, is))) in
          let odd : mark (set old leaf false) (2 * n + 1) ≡ mark old (2 * n + 1) = there old leaf (2 * n + 1) false (λ is. other (omega (arith, is))) in
          there old leaf n false (λ is. absurd (omega (arith, is, below, from))) ∙ pairs n above below ∙ sym (both _ _ _ _ even odd);
      marked = there old leaf (leaf / 2) false apart ∙ above_marked old leaf top marked (λ above. pairs (leaf / 2) above (omega (arith, to)));
      others = λ n above other. there old leaf n false other;
      removed = here old leaf leaf false inside refl;
    }

-- The way down.

pub below_later : (levels a b : ℕ) → a < b → first_below levels a < first_below levels b
below_later zero a b less = less
below_later (suc levels) a b less = below_later levels (2 * a) (2 * b) (omega (arith, less))

pub below_further : (levels a : ℕ) → a ≤ first_below levels a
below_further zero a = omega arith
below_further (suc levels) a = omega (arith, below_further levels (2 * a))

pub below_twice : (levels a : ℕ) → first_below levels (2 * a) ≡ 2 * first_below levels a
below_twice zero a = refl
below_twice (suc levels) a = below_twice levels (2 * a)

-- the second of the two below a node, and the node after it
next_pair : (levels node : ℕ) → first_below (suc levels) (node + 1) ≡ first_below levels (2 * node + 1 + 1)
next_pair levels node =
    let same : 2 * (node + 1) ≡ 2 * node + 1 + 1 = omega arith in
    ap (first_below levels) same

-- the last marked leaf is below a marked node
pub record IsAbove (xs : List Bool) (leaves node : ℕ) : Type 0 where
  pub levels : ℕ
  pub some : 0 < node
  pub marked : mark xs node ≡ true
  pub from : leaves ≤ first_below levels node
  pub to : first_below levels (node + 1) ≤ 2 * leaves
  pub latest : (leaf : ℕ) → leaves ≤ leaf → mark xs leaf ≡ true → leaf < first_below levels (node + 1)

module _ (xs : List Bool) (leaves : ℕ) (pairs : (n : ℕ) → 0 < n → n < leaves → mark xs n ≡ (mark xs (2 * n) || mark xs (2 * n + 1))) where
  -- no leaf below an unmarked node is marked
  pub none_below : (levels node leaf : ℕ) → 0 < node → mark xs node ≡ false → first_below levels (node + 1) ≤ 2 * leaves
      → first_below levels node ≤ leaf → leaf < first_below levels (node + 1) → mark xs leaf ≡ false
  none_below zero node leaf some unmarked within from to =
      let is : leaf ≡ node = omega (arith, from, to) in
      ap (mark xs) is ∙ unmarked
  none_below (suc levels) node leaf some unmarked within from to =
      let inside : node < leaves = omega (arith, within, below_further levels (2 * (node + 1))) in
      let two = or_parts (mark xs (2 * node)) (mark xs (2 * node + 1)) (sym (pairs node some inside) ∙ unmarked) in
      let next = next_pair levels node in
      elim (cases_lt leaf (first_below levels (2 * node + 1))) [
        | inl first ↦ none_below levels (2 * node) leaf (omega (arith, some)) two.0 (omega (arith, within, next, below_later levels (2 * node + 1) (2 * node + 1 + 1) (omega arith))) from first
        | inr second ↦ none_below levels (2 * node + 1) leaf (omega arith) two.1 (omega (arith, within, next)) second (omega (arith, to, next))
      ]

  module _ (node : ℕ) where
    second_with : (levels : ℕ) → node < leaves → leaves ≤ first_below levels node → first_below levels (node + 1) ≤ 2 * leaves
        → ((leaf : ℕ) → leaves ≤ leaf → mark xs leaf ≡ true → leaf < first_below levels (node + 1)) → mark xs (2 * node + 1) ≡ true → IsAbove xs leaves (2 * node + 1)
    second_with zero inside from to latest marked = absurd (omega (arith, inside, from))
    second_with (suc levels) inside from to latest marked =
        let next = next_pair levels node in
        record {
          levels = levels;
          some = omega arith;
          marked = marked;
          from = omega (arith, from, below_later levels (2 * node) (2 * node + 1) (omega arith));
          to = omega (arith, to, next);
          latest = λ leaf above is. omega (arith, next, latest leaf above is);
        }

    first_with : (levels : ℕ) → 0 < node → node < leaves → mark xs node ≡ true → leaves ≤ first_below levels node → first_below levels (node + 1) ≤ 2 * leaves
        → ((leaf : ℕ) → leaves ≤ leaf → mark xs leaf ≡ true → leaf < first_below levels (node + 1)) → mark xs (2 * node + 1) ≡ false → IsAbove xs leaves (2 * node)
    first_with zero some inside marked from to latest unmarked = absurd (omega (arith, inside, from))
    first_with (suc levels) some inside marked from to latest unmarked =
        let next = next_pair levels node in
        let two : (mark xs (2 * node) || mark xs (2 * node + 1)) ≡ true = sym (pairs node some inside) ∙ marked in
        record {
          levels = levels;
          some = omega (arith, some);
          marked = elim (cases_Bool (mark xs (2 * node))) [ inl is ↦ is | inr isnt ↦ absurd (true≢false (sym two ∙ or_from (mark xs (2 * node)) (mark xs (2 * node + 1)) isnt unmarked)) ];
          from = from;
          to = omega (arith, to, next, below_later levels (2 * node + 1) (2 * node + 1 + 1) (omega arith));
          latest = λ leaf above is. elim (cases_lt leaf (first_below levels (2 * node + 1))) [
            | inl before ↦ before
            | inr after ↦ absurd (true≢false (sym is ∙ none_below levels (2 * node + 1) leaf (omega arith) unmarked (omega (arith, to, next)) after (omega (arith, next, latest leaf above is))))
          ];
        }

    pub go_second : IsAbove xs leaves node → node < leaves → mark xs (2 * node + 1) ≡ true → IsAbove xs leaves (2 * node + 1)
    go_second above inside marked = second_with above.levels inside above.from above.to above.latest marked

    pub go_first : IsAbove xs leaves node → node < leaves → mark xs (2 * node + 1) ≡ false → IsAbove xs leaves (2 * node)
    go_first above inside unmarked = first_with above.levels above.some inside above.marked above.from above.to above.latest unmarked

    -- a leaf above the last one is that one
    last_with : (levels : ℕ) → leaves ≤ node → first_below levels (node + 1) ≤ 2 * leaves → (leaf : ℕ) → leaf < first_below levels (node + 1) → leaf ≤ node
    last_with zero at to leaf below = omega (arith, below)
    last_with (suc levels) at to leaf below = absurd (omega (arith, at, to, below_further levels (2 * (node + 1))))

    pub is_latest : IsAbove xs leaves node → leaves ≤ node → (leaf : ℕ) → leaves ≤ leaf → mark xs leaf ≡ true → leaf ≤ node
    is_latest above at leaf from marked = last_with above.levels at above.to leaf (above.latest leaf from marked)

    pub is_leaf : IsAbove xs leaves node → node < 2 * leaves
    is_leaf above = omega (arith, above.to, below_further above.levels (node + 1))

-- all leaves are below node 1
module _ (xs : List Bool) (leaves levels : ℕ) (is : leaves ≡ first_below levels 1) (long : length xs ≡ 2 * leaves) where
  all_below : first_below levels (1 + 1) ≡ 2 * leaves
  all_below = below_twice levels 1 ∙ ap (λ n. 2 * n) (sym is)

  within_list : (leaf : ℕ) → mark xs leaf ≡ true → leaf < 2 * leaves
  within_list leaf marked = elim (cases_lt leaf (2 * leaves)) [
    | inl inside ↦ inside
    | inr past ↦ absurd (true≢false (sym marked ∙ get_or_past xs leaf false (omega (arith, past, long))))
  ]

  pub some_leaf : 0 < leaves
  some_leaf = omega (arith, is, below_further levels 1)

  pub starts_above : mark xs 1 ≡ true → IsAbove xs leaves 1
  starts_above marked = record {
    levels = levels;
    some = omega arith;
    marked = marked;
    from = omega (arith, is);
    to = omega (arith, all_below);
    latest = λ leaf above there. omega (arith, within_list leaf there, all_below);
  }

  pub none_at_all : ((n : ℕ) → 0 < n → n < leaves → mark xs n ≡ (mark xs (2 * n) || mark xs (2 * n + 1))) → mark xs 1 ≡ false → (leaf : ℕ) → leaves ≤ leaf → mark xs leaf ≡ false
  none_at_all pairs unmarked leaf from = elim (cases_lt leaf (2 * leaves)) [
    | inl inside ↦ none_below xs leaves pairs levels 1 leaf (omega arith) unmarked (omega (arith, all_below)) (omega (arith, is, from)) (omega (arith, inside, all_below))
    | inr past ↦ get_or_past xs leaf false (omega (arith, past, long))
  ]

-- the node at which the way down ends is that of the last index
module _ (xs : List Bool) (leaves node : ℕ) (pairs : (n : ℕ) → 0 < n → n < leaves → mark xs n ≡ (mark xs (2 * n) || mark xs (2 * n + 1))) (above : IsAbove xs leaves node) (at : leaves ≤ node) where
  same : leaves + (node - leaves) ≡ node
  same = omega (arith, at)

  pub last_inside : mark xs (leaves + (node - leaves)) ≡ true
  last_inside = ap (mark xs) same ∙ above.marked

  pub last_latest : (other : ℕ) → mark xs (leaves + other) ≡ true → other ≤ node - leaves
  last_latest other marked = omega (arith, at, is_latest xs leaves pairs node above at (leaves + other) (omega arith) marked)
