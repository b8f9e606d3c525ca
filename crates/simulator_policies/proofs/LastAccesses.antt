-- The last accesses given by stamps: how many there are from an index on, and what an access changes in their blocks.
use Rattle.std.proofs.Common.{◌≡◌, ◌≢◌, ℕ, zero, suc, ◌+◌, ◌*◌, ◌-◌, ◌/◌, ◌<◌, ◌≤◌, ◌⊎◌, refl, sym, ap, ◌∙◌, arith, add-one, inl, inr, true, false, cond, eqb, ltb, List, [], ◌∷◌, ◌++◌}
use Rattle.std.proofs.Common.{append_assoc, length, set, get_or, get_or-set_same, get_or-set_other}
use Rattle.std.specs.Prelude.{None, Some}
use Rattle.std.proofs.lemmas.Bool.{cases_Bool, cases_eq, cases_lt, eq-eqb, ne_eqb, lt-ltb, false_from_ne_true}
use Rattle.clock2q_machine.specs.Hits.{is_in}
use Rattle.simulator_policies.specs.Stamps.{held_at, is_newest, AreStamps}
use Rattle.simulator_policies.specs.declared.count_tree.CountTree.{CountTree}
use Rattle.simulator_policies.specs.declared.last_accesses.LastAccesses.{LastAccesses}
use Rattle.simulator_policies.specs.CountTree.{sum_in, node_of, count_of, IsTree}
use Rattle.simulator_policies.specs.StackDistances.{stack_distance}
use Rattle.simulator_policies.specs.LastAccesses.{newest, other_newest, AreCounts, IsCounting}
use Rattle.simulator_policies.proofs.Stamping.{in_stamped, held-none, held-oldest}
use Rattle.simulator_policies.proofs.Sums.{sum_same, sum_none, sum_split, sum_rows, sum_more}
use Rattle.simulator_policies.proofs.Nodes.{one-here, none-here}
use Rattle.simulator_policies.proofs.StackDistances.{distance-behind, distance-none}

module _ (trace stamps : List ℕ) where
  abbrev key_at : ℕ → ℕ
  key_at index = get_or trace index 0

  abbrev stamp_of : ℕ → ℕ
  stamp_of key = get_or stamps key 0

  -- as many keys are held as have their last access from the first index on
  pub held-sum : (left n : ℕ) → length (held_at trace stamps left (left + n)) ≡ sum_in (newest trace stamps) left n
  held-sum left zero =
      let all : left + 0 ≡ left = omega arith in
      ap (λ at. length (held_at trace stamps left at)) all ∙ ap length (held-none trace stamps left left (omega arith))
  held-sum left (suc n) =
      let next : left + suc n ≡ suc (left + n) = omega arith in
      let later : ltb left (suc (left + n)) ≡ true = lt-ltb left (suc (left + n)) (omega arith) in
      let rest = held-sum left n in
      ap (λ at. length (held_at trace stamps left at)) next
      ∙ elim (cases_Bool (eqb (stamp_of (key_at (left + n))) (suc (left + n)))) as
      (λ w. length (held_at trace stamps left (suc (left + n))) ≡ sum_in (newest trace stamps) left (suc n)) [
        | inl is ↦ rw (is, later) (omega (arith, rest))
        | inr old ↦ rw old (omega (arith, rest))
      ]

  -- no key's last access is at an index that is still to come
  pub none-later : (at index : ℕ) → AreStamps trace stamps at → at ≤ index → newest trace stamps index ≡ 0
  none-later at index are after = none-here (stamp_of (key_at index)) (suc index) (λ e. omega (arith, e, after, are.bound (key_at index)))

  -- so the sum to an end that is still to come is that up to now
  pub held-so-far : (from at n : ℕ) → AreStamps trace stamps at → from ≤ at → at ≤ from + n → sum_in (newest trace stamps) from n ≡ length (held_at trace stamps from at)
  held-so-far from at n are begun past =
      let parts : n ≡ (at - from) + (from + n - at) = omega (arith, begun, past) in
      let now : from + (at - from) ≡ at = omega (arith, begun) in
      let none : sum_in (newest trace stamps) (from + (at - from)) (from + n - at) ≡ 0 =
      sum_none (newest trace stamps) (from + (at - from)) (from + n - at)
      (λ i after before. none-later at i are (omega (arith, after, now))) in
      omega (
        arith,
        ap (sum_in (newest trace stamps) from) parts,
        sum_split (newest trace stamps) from (at - from) (from + n - at),
        none,
        held-sum from (at - from),
        ap (λ at. length (held_at trace stamps from at)) now,
      )

  pub held-few : (from at : ℕ) → length (held_at trace stamps from at) ≤ at - from
  held-few from zero = omega arith
  held-few from (suc index) = elim (cases_lt index from) [
    | inl before ↦ omega (arith, ap length (held-none trace stamps from (suc index) (omega (arith, before))))
    | inr after ↦ elim (cases_Bool (is_newest trace stamps from index)) [
      | inl is ↦ rw is (omega (arith, after, held-few from index))
      | inr old ↦ rw old (omega (arith, after, held-few from index))
    ]
  ]

  -- the list of an earlier beginning ends with that of the keys in between
  held-more : (from left at : ℕ) → left ≤ from → from ≤ at → (behind : List ℕ) × (held_at trace stamps left at ≡ held_at trace stamps from at ++ behind)
  held-more from left zero before begun = ([], refl)
  held-more from left (suc index) before begun = elim (cases_eq from (suc index)) [
    | inl here ↦
        let none : held_at trace stamps from (suc index) ≡ [] = held-none trace stamps from (suc index) (omega (arith, here)) in
        (held_at trace stamps left (suc index), sym (ap (λ held. held ++ held_at trace stamps left (suc index)) none))
    | inr later ↦
        let rest = held-more from left index before (omega (arith, begun, later)) in
        elim (cases_Bool (eqb (stamp_of (key_at index)) (suc index))) [
          | inl is ↦
              let since : ltb left (suc index) ≡ true = lt-ltb left (suc index) (omega (arith, before, begun, later)) in
              let after : ltb from (suc index) ≡ true = lt-ltb from (suc index) (omega (arith, begun, later)) in
              (rest.0, rw (is, since, after) (ap (λ held. key_at index ∷ held) rest.1))
          | inr old ↦ (rest.0, rw old rest.1)
        ]
  ]

  -- the distance of a key is the number of last accesses after its own
  pub distance-held : (key at : ℕ) → AreStamps trace stamps at → 0 < stamp_of key → stack_distance key (held_at trace stamps 0 at) ≡ Some (length (held_at trace stamps (stamp_of key) at))
  distance-held key at are came =
      let last : stamp_of key ≡ suc (stamp_of key - 1) = omega (arith, came) in
      let own : key_at (stamp_of key - 1) ≡ key = are.own key (stamp_of key - 1) last in
      let newer : held_at trace stamps (stamp_of key - 1) at ≡
      held_at trace stamps (suc (stamp_of key - 1)) at ++ key_at (stamp_of key - 1) ∷ [] =
      held-oldest trace stamps (stamp_of key - 1) at (ap stamp_of own ∙ last) (omega (arith, came, are.bound key)) in
      let older = held-more (stamp_of key - 1) 0 at (omega arith) (omega (arith, are.bound key)) in
      let absent : is_in key (held_at trace stamps (stamp_of key) at) ≡ false =
      false_from_ne_true (is_in key (held_at trace stamps (stamp_of key) at))
      (λ is. omega (arith, (in_stamped trace stamps (stamp_of key) key at is).0)) in
      let list : held_at trace stamps 0 at ≡ held_at trace stamps (stamp_of key) at ++ key ∷ older.0 =
      older.1 ∙ ap (λ held. held ++ older.0) newer
      ∙ append_assoc (held_at trace stamps (suc (stamp_of key - 1)) at) (key_at (stamp_of key - 1) ∷ []) older.0
      ∙ ap (λ k. held_at trace stamps (suc (stamp_of key - 1)) at ++ k ∷ older.0) own
      ∙ ap (λ from. held_at trace stamps from at ++ key ∷ older.0) (sym last) in
      ap (stack_distance key) list ∙ distance-behind key (held_at trace stamps (stamp_of key) at) older.0 absent

  pub distance-new : (key at : ℕ) → AreStamps trace stamps at → stamp_of key ≡ 0 → stack_distance key (held_at trace stamps 0 at) ≡ None
  distance-new key at are never =
      distance-none key (held_at trace stamps 0 at)
      (false_from_ne_true (is_in key (held_at trace stamps 0 at))
      (λ is. omega (arith, never, (in_stamped trace stamps 0 key at is).0)))

  -- Blocks without a key's own last access.

  -- an index that isn't the key's last access counts nothing for it
  pub others-same : (key index : ℕ) → stamp_of key ≢ suc index → newest trace stamps index ≡ other_newest trace stamps key index
  others-same key index other = elim (cases_eq (key_at index) key) [
    | inl same ↦ none-here (stamp_of (key_at index)) (suc index) (λ e. other (sym (ap stamp_of same) ∙ e)) ∙ sym (rw (eq-eqb (key_at index) key same) refl)
    | inr apart ↦ sym (rw (ne_eqb (key_at index) key apart) refl)
  ]

  -- and that one counts one
  pub others-less : (key index : ℕ) → key_at index ≡ key → stamp_of key ≡ suc index → newest trace stamps index ≡ other_newest trace stamps key index + 1
  others-less key index same stamp =
      let none : other_newest trace stamps key index ≡ 0 = rw (eq-eqb (key_at index) key same) refl in
      omega (arith, none, one-here (stamp_of (key_at index)) (suc index) (ap stamp_of same ∙ stamp))

  -- a new stamp of the key changes nothing for others
  pub others-still : (key stamp index : ℕ) → other_newest trace (set stamps key stamp) key index ≡ other_newest trace stamps key index
  others-still key stamp index = elim (cases_eq (key_at index) key) [
    | inl same ↦ rw (eq-eqb (key_at index) key same) refl
    | inr apart ↦ rw (ne_eqb (key_at index) key apart) (ap (λ s. cond (eqb s (suc index)) 1 0) (get_or-set_other stamps key (key_at index) stamp 0 apart))
  ]

-- the sums of blocks where one number is more by one
pub block-more : (f g : ℕ → ℕ) (place block : ℕ) → g place ≡ f place + 1 → ((i : ℕ) → i ≢ place → g i ≡ f i) → sum_in g (16 * block) 16 ≡ sum_in f (16 * block) 16 + cond (eqb block (place / 16)) 1 0
block-more f g place block more others = elim (cases_eq block (place / 16)) [
  | inl here ↦ omega (arith, one-here block (place / 16) here, sum_more f g place (16 * block) 16 (omega (arith, here)) (omega (arith, here)) more others)
  | inr elsewhere ↦ omega (
    arith,
    none-here block (place / 16) elsewhere,
    sum_same g f (16 * block) 16 (λ i from below. others i (λ is. elsewhere (omega (arith, is, from, below)))),
  )
]

-- stamps of no access
pub none-yet : (trace stamps : List ℕ) → ((key : ℕ) → get_or stamps key 0 ≡ 0) → AreStamps trace stamps 0
none-yet trace stamps none = record {
  bound = λ key. omega (arith, none key);
  own = λ key index stamp. absurd (omega (arith, none key, stamp));
}

-- Blocks of a tree.

module _ {A : Type 0} (trace stamps : List ℕ) (at : ℕ) (number : ℕ → ℕ) (counts : CountTree A) (are : AreCounts trace at number counts) where
  -- the sum of the blocks from one on
  pub blocks-sum : (block : ℕ) → block ≤ counts.blocks → sum_in (count_of counts) block (counts.blocks - block) ≡ sum_in number (16 * block) (16 * (counts.blocks - block))
  blocks-sum block within = sym (sum_rows number (count_of counts) 16 block (counts.blocks - block) (λ i from below. are.counted i (omega (arith, below, within))))

module _ {A : Type 0} (trace : List ℕ) (at : ℕ) (accesses : LastAccesses A) (counting : IsCounting trace at accesses) (within : at ≤ length trace) where
  abbrev stamps : List ℕ
  stamps = accesses.stamps.items

  abbrev blocks : ℕ
  blocks = accesses.counts.blocks

  abbrev behind : ℕ → ℕ
  behind block = sum_in (count_of accesses.counts) block (blocks - block)

  -- the blocks from one on count the keys whose last access is in them
  pub behind-held : (block : ℕ) → block ≤ blocks → 16 * block ≤ at → behind block ≡ length (held_at trace stamps (16 * block) at)
  behind-held block inside begun =
      blocks-sum trace stamps at (newest trace stamps) accesses.counts counting.counts block inside
      ∙ held-so-far trace stamps (16 * block) at (16 * (blocks - block)) counting.stamped begun (omega (arith, inside, within, counting.counts.covers))

  -- and no block to come has any
  pub behind-none : (block : ℕ) → block ≤ blocks → at ≤ 16 * block → behind block ≡ 0
  behind-none block inside past =
      blocks-sum trace stamps at (newest trace stamps) accesses.counts counting.counts block inside
      ∙ sum_none (newest trace stamps) (16 * block) (16 * (blocks - block)) (λ i after before. none-later trace stamps at i counting.stamped (omega (arith, past, after)))

  pub behind-few : (block edge : ℕ) → block ≤ blocks → edge ≤ at → edge ≤ 16 * block → (edge ≡ at) ⊎ (edge ≡ 16 * block) → behind block + edge ≤ at
  behind-few block edge inside early before ends = elim ends [
    | inl now ↦ omega (arith, now, behind-none block inside (omega (arith, now, before)))
    | inr first ↦ omega (arith, first, early, behind-held block inside (omega (arith, first, early)), held-few trace stamps (16 * block) at)
  ]

  -- with those of the indices before the first of these blocks they are all from an index on
  pub newer-sum : (from block edge : ℕ) → block ≤ blocks → from ≤ edge → edge ≤ at → edge ≤ 16 * block → (edge ≡ at) ⊎ (edge ≡ 16 * block)
      → sum_in (newest trace stamps) from (edge - from) + behind block ≡ length (held_at trace stamps from at)
  newer-sum from block edge inside begun early before ends = elim ends [
    | inl now ↦
        let none = behind-none block inside (omega (arith, now, before)) in
        let here = held-so-far trace stamps from at (edge - from) counting.stamped (omega (arith, begun, early)) (omega (arith, now, begun)) in
        omega (arith, none, here)
    | inr first ↦
        let long : 16 * blocks - from ≡ (edge - from) + 16 * (blocks - block) = omega (arith, first, inside, begun) in
        let place : from + (edge - from) ≡ 16 * block = omega (arith, first, begun) in
        omega (
          arith,
          blocks-sum trace stamps at (newest trace stamps) accesses.counts counting.counts block inside,
          held-so-far trace stamps from at (16 * blocks - from) counting.stamped (omega (arith, begun, early)) (omega (arith, within, counting.counts.covers)),
          ap (sum_in (newest trace stamps) from) long,
          sum_split (newest trace stamps) from (edge - from) (16 * (blocks - block)),
          ap (λ n. sum_in (newest trace stamps) n (16 * (blocks - block))) place,
        )
  ]

-- A key's last access leaves the counts, and a later one comes.

module _ {A : Type 0} (trace stamps : List ℕ) (at : ℕ) (key : ℕ) (old new : CountTree A) (are : AreStamps trace stamps at) where
  -- a key that was never accessed has none
  pub left-none : get_or stamps key 0 ≡ 0 → AreCounts trace at (newest trace stamps) old → AreCounts trace at (other_newest trace stamps key) old
  left-none never counts = record {
    tree = counts.tree;
    covers = counts.covers;
    counted = λ block below. counts.counted block below
        ∙ sum_same (newest trace stamps) (other_newest trace stamps key) (16 * block) 16
        (λ i from to. others-same trace stamps key i (λ stamp. omega (arith, never, stamp)));
    few = counts.few;
  }

  -- another has one, in the block of its index
  pub left-some : (last : ℕ) → get_or stamps key 0 ≡ suc last → AreCounts trace at (newest trace stamps) old → last / 16 < old.blocks → 0 < count_of old (last / 16)
  left-some last stamp counts inside =
      let own : get_or trace last 0 ≡ key = are.own key last stamp in
      let less = block-more (other_newest trace stamps key) (newest trace stamps) last (last / 16)
      (others-less trace stamps key last own stamp)
      (λ i other. others-same trace stamps key i (λ e. other (omega (arith, e, stamp)))) in
      omega (arith, counts.counted (last / 16) inside, less, one-here (last / 16) (last / 16) refl)

  pub left-one : (last : ℕ) → get_or stamps key 0 ≡ suc last → AreCounts trace at (newest trace stamps) old → IsTree new → new.blocks ≡ old.blocks
      → count_of old (last / 16) ≡ count_of new (last / 16) + 1 → ((other : ℕ) → other ≢ last / 16 → count_of new other ≡ count_of old other) → ((node : ℕ) → node_of new node ≤ node_of old node)
      → AreCounts trace at (other_newest trace stamps key) new
  left-one last stamp counts tree same one others fewer = record {
    tree = tree;
    covers = omega (arith, counts.covers, same);
    counted = λ block below.
        let own : get_or trace last 0 ≡ key = are.own key last stamp in
        let less = block-more (other_newest trace stamps key) (newest trace stamps) last block
        (others-less trace stamps key last own stamp)
        (λ i other. others-same trace stamps key i (λ e. other (omega (arith, e, stamp)))) in
        let was = counts.counted block (omega (arith, below, same)) in
        elim (cases_eq block (last / 16)) [
          | inl here ↦ omega (arith, was, less, one-here block (last / 16) here, one, ap (count_of new) here, ap (count_of old) here)
          | inr elsewhere ↦ omega (arith, was, less, none-here block (last / 16) elsewhere, others block elsewhere)
        ];
    few = λ node. omega (arith, counts.few node, fewer node);
  }

  pub entered : key < length stamps → get_or trace at 0 ≡ key → AreCounts trace at (other_newest trace stamps key) old → IsTree new → new.blocks ≡ old.blocks
      → count_of new (at / 16) ≡ count_of old (at / 16) + 1 → ((other : ℕ) → other ≢ at / 16 → count_of new other ≡ count_of old other) → ((node : ℕ) → node_of new node ≤ node_of old node + 1)
      → AreCounts trace (at + 1) (newest trace (set stamps key (at + 1))) new
  entered within own counts tree same one others more =
      let stamp : get_or (set stamps key (at + 1)) key 0 ≡ suc at = get_or-set_same stamps key (at + 1) 0 within ∙ add-one at in
      let first : newest trace (set stamps key (at + 1)) at ≡ other_newest trace stamps key at + 1 =
      others-less trace (set stamps key (at + 1)) key at own stamp
      ∙ ap (λ n. n + 1) (others-still trace stamps key (at + 1) at) in
      record {
        tree = tree;
        covers = omega (arith, counts.covers, same);
        counted = λ block below.
            let greater = block-more (other_newest trace stamps key) (newest trace (set stamps key (at + 1))) at block first
            (λ i other. others-same trace (set stamps key (at + 1)) key i (λ e. other (omega (arith, e, stamp)))
            ∙ others-still trace stamps key (at + 1) i) in
            let was = counts.counted block (omega (arith, below, same)) in
            elim (cases_eq block (at / 16)) [
              | inl here ↦ omega (arith, was, greater, one-here block (at / 16) here, one, ap (count_of new) here, ap (count_of old) here)
              | inr elsewhere ↦ omega (arith, was, greater, none-here block (at / 16) elsewhere, others block elsewhere)
            ];
        few = λ node. omega (arith, counts.few node, more node);
      }
