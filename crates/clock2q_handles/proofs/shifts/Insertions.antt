-- What putting an entry in does to a table, and when it is refused.
use Rattle.std.proofs.Common.{◌≡◌, ℕ, ◌+◌, ◌-◌, ◌<◌, ◌≤◌, inl, inr, refl, ap, sym, subst, arith, List, [], ◌∷◌, ◌++◌, append-nil, length, Option, ◌*◌, ◌%◌, ◌∙◌, None, le-mul_of_pos_right}
use Rattle.std.proofs.lemmas.List.{get_or_past}
use Rattle.clock2q_handles.specs.Homes.{top, capacity, listed, total, with_handle}
use Rattle.clock2q_handles.specs.Layout.{Placed, slot_at, reach, longest_reach, homes_of, met, run, IsTidy, IsTooLong}
use Rattle.clock2q_handles.specs.Shifts.{HasCome, HasRoomAt, LacksRoomAt, PutsAt}
use Rattle.clock2q_handles.specs.Slots.{Mark, mark_reach, IsSlotCount}
use Rattle.clock2q_handles.specs.Candidates.{EndsAt}
use Rattle.clock2q_handles.specs.Table.{IsTable}
use Rattle.clock2q_handles.proofs.layout.Walk.{Stops, met-late}
use Rattle.clock2q_handles.proofs.layout.Reaching.{run-is}
use Rattle.clock2q_handles.proofs.layout.Reading.{slot-again, slots_again}
use Rattle.clock2q_handles.proofs.layout.TidyLayout.{tidy-total, length-homes_of, capacity-lt}
use Rattle.clock2q_handles.proofs.layout.TooLong.{long-by-new, long-by-moved, reach-total}
use Rattle.clock2q_handles.proofs.layout.Tables.{table-short}
use Rattle.clock2q_handles.proofs.layout.Periods.{again-times}
use Rattle.clock2q_handles.proofs.layout.FewerEntries.{walk-is}
use Rattle.clock2q_handles.proofs.walks.Yields.{walk-beyond}
use Rattle.clock2q_handles.proofs.shifts.Carrying.{come_at, come_here, come_slot, slot_from_plus}
use Rattle.clock2q_handles.proofs.shifts.Shifts.{opened-ordered, opened-near, opened-within, opened-entries, own-before, own-after, others-kept, with_list-read}

module _ {E : Type 0} (slots : List (Option (Placed E))) (tidy : IsTidy slots) where
  -- no entry is further past its home than there are other entries
  pub near_total : (k : ℕ) → reach (slot_at slots k) ≤ total (homes_of slots)
  near_total k =
      let d : ℕ = reach (slot_at slots k) - 1 in
      let h : ℕ = k + d * length slots - d in
      let far : 0 < length slots → 0 < reach (slot_at slots k) → reach (slot_at slots k) ≤ total (homes_of slots) = λ some high.
      let e : h + d ≡ k + d * length slots = omega (arith, le-mul_of_pos_right d some) in
      let same : slot_at slots (h + d) ≡ slot_at slots k = ap (slot_at slots) e ∙ again-times (slot_at slots) (length slots) (slot-again slots) k d in
      let room : total (homes_of slots) < length (homes_of slots) = omega (arith, tidy.room, tidy-total slots tidy, capacity-lt (length slots) some, length-homes_of slots) in
      omega (arith, high, (walk-beyond slots tidy h d some (omega (arith, high, ap reach same))).0, walk-is (homes_of slots) h (omega (arith, room)), reach-total (homes_of slots) room h) in
      grind (arith, far, get_or_past slots (k % length slots) None)

-- what an insertion results in: the lists with the entry, none of which is too long, and the writes
pub record Insertion {H : Type 0} (x : ℕ) (v : H) (slots others : List (Option (Placed (ℕ × H)))) (len before after : ℕ) : Type 0 where
  pub homes : homes_of others ≡ with_handle (homes_of slots) x v
  pub short : IsTooLong (with_handle (homes_of slots) x v) → ⊥
  pub table : IsTable others (len + 1)
  pub counted : before ≤ after
  pub writes : after ≤ before + run slots x + 1

-- a walk for x ends in slot s, of slots where one more entry fits
pub record IsEnd {H : Type 0} (slots : List (Option (Placed (ℕ × H)))) (x : ℕ) (mark : Mark) (s : ℕ) : Type 0 where
  pub fits : total (homes_of slots) < capacity (length slots)
  pub ends : EndsAt slots x mark s

-- what an insertion at the slot where a walk ended results in
module _ {H : Type 0} {x : ℕ} {slots : List (Option (Placed (ℕ × H)))} {len : ℕ} (table : IsTable slots len) {mark : Mark} {s : ℕ} (end : IsEnd slots x mark s) where
  abbrev n : ℕ
  n = end.ends.walk.distance

  come : HasCome slots x n s
  come = come_at slots x n s end.ends.walk.come

  stops : Stops (slot_at slots) x 0 n
  stops = grind (arith, come.passed, end.ends, come_here slots x n s come)

  -- the contents of the slots further on in the run
  further : (k : ℕ) → slot_at slots (s + k) ≡ slot_at slots (x + (n + k))
  further k = slot_from_plus slots x n s k come.slot

  -- there is room among few entries
  pub few_room : len ≤ 16777214 → HasRoomAt slots mark s
  few_room few =
      let near : (k : ℕ) → reach (slot_at slots k) ≤ 16777214 = λ k. omega (arith, few, table.counted, near_total slots table.tidy k) in
      grind (arith, end.ends.walk.mark, come.passed (n - 1), near)

  pub end_within : s < length slots
  end_within = come_slot slots x n s come

  module _ (v : H) where
    -- if there is no room for it, some entry would be too far past its home
    pub refusal : LacksRoomAt slots mark s → IsTooLong (with_handle (homes_of slots) x v)
    refusal (inl far) = long-by-new slots table.tidy x n (top x, v) stops end.fits (omega (arith, far, ap mark_reach end.ends.walk.mark))
    refusal (inr far) = long-by-moved slots table.tidy x n (top x, v) stops end.fits (n + far.0) (omega arith)
        (λ i from upto. grind (arith, far.1 (i - n) (omega (arith, upto, from)), further (i - n), from)) (omega (arith, far.2, ap reach (further far.0)))

    -- so if none would, there is room
    pub short_room : (IsTooLong (with_handle (homes_of slots) x v) → ⊥) → HasRoomAt slots mark s
    short_room short = grind (arith, refusal)

  module _ {v : H} {others : List (Option (Placed (ℕ × H)))} {before after : ℕ} (room : HasRoomAt slots mark s) (puts : PutsAt slots others mark s v before after) where
    pub inserted : Insertion x v slots others len before after
    inserted =
        let put = puts.opens x n (top x) come end.ends.walk.mark in
        let opens = put.2 in
        let again = slot-again slots in
        let again' = slots_again others (length slots) puts.len in
        let free : (j : ℕ) → n ≤ j → j < put.0 → reach (slot_at slots (x + j)) < longest_reach = λ j from upto.
        let at : x + (n + (j - n)) ≡ x + j = omega (arith, from) in
        let near = room.others (j - n) (λ i l. omega (arith, put.1.occupied (n + i) (omega (arith, l, from, upto)), ap reach (further i))) in
        omega (arith, near, ap reach (further (j - n)), ap (λ y. reach (slot_at slots y)) at) in
        let ordered = opened-ordered opens again again' table.tidy.ordered come.passed (omega (arith, stops.stop)) put.1.occupied in
        let near = opened-near opens again again' table.tidy.ordered in
        let more = opened-entries slots others refl puts.len opens in
        let tidy : IsTidy others = record { ordered = ordered; room = omega (arith, more, end.fits, tidy-total slots table.tidy, ap capacity puts.len) } in
        let own = own-before slots others refl puts.len opens table.tidy.ordered ordered near in
        let is = own-after slots others refl puts.len opens table.tidy.ordered ordered near in
        let kept = others-kept slots others refl puts.len opens table.tidy.ordered ordered near in
        let late = met-late (slot_at slots) table.tidy.ordered x n (put.0 - n) (omega (arith, stops.stop)) in
        let put_here : listed (homes_of others) x ≡ listed (homes_of slots) x ++ (top x, v) ∷ [] = grind (arith, own, is, late, append-nil (met (slot_at slots) x 0 n)) in
        let homes = with_list-read slots others x (listed (homes_of slots) x ++ (top x, v) ∷ []) puts.len (omega (arith, come.within)) put_here kept in
        let near' = opened-within opens again again' longest_reach table.near (omega (arith, room.own, ap mark_reach end.ends.walk.mark)) free in
        let counted : len + 1 ≡ total (homes_of others) = omega (arith, more, tidy-total slots table.tidy, tidy-total others tidy, table.counted) in
        let result : IsTable others (len + 1) = record { tidy = tidy; counted = counted; slot_count = subst IsSlotCount (sym puts.len) table.slot_count; near = near' } in
        let short : IsTooLong (with_handle (homes_of slots) x v) → ⊥ = λ long. table-short others (len + 1) result (subst IsTooLong (sym homes) long) in
        let writes = run-is slots x put.0 opens.upto opens.vacant put.1.occupied in
        record { homes = homes; short = short; table = result; counted = omega (arith, put.3, opens.from); writes = omega (arith, put.3, writes) }
