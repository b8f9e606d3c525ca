-- A table's slots are tidy exactly if they are the layout of few enough entries, which are then those read off them.
use Rattle.std.proofs.Common.{◌≡◌, ℕ, zero, suc, ◌+◌, ◌%◌, ◌<◌, ◌≤◌, refl, ap, sym, ◌∙◌, subst, arith, List, [], ◌∷◌, length, take, take_all, get_or, length-append, ext_get_or}
use Rattle.std.proofs.Common.{sum_by, Option, Some, None, slice_get, mod-eq_of_lt, add-one}
use Rattle.std.proofs.lemmas.List.{get_or_past, get_or_at, get_or_append_left}
use Rattle.std.proofs.lemmas.List.Sums.{sum_by_more, sum_by-cons}
use Rattle.clock2q_handles.specs.Homes.{capacity, listed, count, total}
use Rattle.clock2q_handles.specs.Layout.{placed, spill_of, Placed, window, slot_at, layout, entries, met, read_upto, homes_of, IsTidy}
use Rattle.clock2q_handles.proofs.layout.Spill.{Roomy, window-same}
use Rattle.clock2q_handles.proofs.layout.Periods.{rem-same}
use Rattle.clock2q_handles.proofs.layout.Laid.{IsLaid, laid-ordered, laid-same, met-again, weight, entries-sum, laid-sum}
use Rattle.clock2q_handles.proofs.layout.Walk.{lists-roomy, ordered-laid, laid-met}
use Rattle.clock2q_handles.proofs.layout.Reading.{slot-again, slots_again, listed-again, count-again, length-layout, layout-laid}

-- as many as there are
pub sum_by_one : {X : Type 0} (xs : List X) → sum_by (λ _. 1) xs ≡ length xs
sum_by_one [] = refl
sum_by_one (x ∷ xs) = omega (arith, sum_by-cons (λ _. 1) x xs, sum_by_one xs)

pub capacity-lt : (m : ℕ) → 0 < m → capacity m < m
capacity-lt m some = omega arith

module _ {E : Type 0} where
  sum-upto : (w : List E → ℕ) (homes : List (List E)) (k : ℕ) → k ≤ length homes → window (λ h. w (listed homes h)) 0 k ≡ sum_by w (take k homes)
  sum-upto w homes zero l = refl
  sum-upto w homes (suc k) l = grind (arith, mod-eq_of_lt l, sum-upto w homes k (omega arith), rw add-one at (sum_by_more w homes k [] l))

  -- the sum over the homes is that over their lists
  pub sum-window : (w : List E → ℕ) (homes : List (List E)) → window (λ h. w (listed homes h)) 0 (length homes) ≡ sum_by w homes
  sum-window w homes = grind (arith, sum-upto w homes (length homes), take_all (length homes) homes)

  pub roomy-of : (homes : List (List E)) → total homes < length homes → Roomy (count homes) (length homes)
  roomy-of homes l = record { again = count-again homes; room = omega (arith, sum-window length homes) }

  length-read_upto : (slots : List (Option (Placed E))) (k : ℕ) → length (read_upto slots k) ≡ k
  length-read_upto slots zero = refl
  length-read_upto slots (suc k) = omega (arith, length-append (read_upto slots k) (met (slot_at slots) k 0 (length slots) ∷ []), length-read_upto slots k)

  get-read_upto : (slots : List (Option (Placed E))) (k h : ℕ) → h < k → get_or (read_upto slots k) h [] ≡ met (slot_at slots) h 0 (length slots)
  get-read_upto slots zero h l = absurd (omega arith)
  get-read_upto slots (suc k) h l = grind (arith, length-read_upto, get_or_append_left, get-read_upto slots k h, get_or_at)

  pub length-homes_of : (slots : List (Option (Placed E))) → length (homes_of slots) ≡ length slots
  unfolding homes_of
  length-homes_of slots = length-read_upto slots (length slots)

  -- the list of a home, read off the slots
  pub listed-homes_of : (slots : List (Option (Placed E))) (h : ℕ) → listed (homes_of slots) h ≡ met (slot_at slots) h 0 (length slots)
  unfolding homes_of
  listed-homes_of slots h = grind (
    arith,
    length-homes_of slots,
    get-read_upto slots (length slots) (h % length slots),
    get_or_past (homes_of slots),
    rem-same (λ x. met (slot_at slots) x 0 (length slots)) (length slots) (λ n. met-again (slot_at slots) (length slots) n 0 (length slots) (slot-again slots)) h,
  )

  module _ (homes : List (List E)) (room : total homes < length homes) where
    -- the layout repeats, and lays out the lists
    again : (n : ℕ) → slot_at (layout homes) (n + length homes) ≡ slot_at (layout homes) n
    again = slots_again (layout homes) (length homes) (length-layout homes)

    laid : IsLaid (length homes) (listed homes) (slot_at (layout homes))
    laid = layout-laid homes (roomy-of homes room)

    -- slots that lay out lists are their layout
    laid-layout : (slots : List (Option (Placed E))) → length slots ≡ length homes → IsLaid (length homes) (listed homes) (slot_at slots) → slots ≡ layout homes
    laid-layout slots len lays = ext_get_or None slots (layout homes) (len ∙ sym (length-layout homes)) (λ i l. grind (
      arith,
      mod-eq_of_lt l,
      len,
      length-layout homes,
      laid-same (length homes) (listed homes) (slot_at slots) (slot_at (layout homes)) (roomy-of homes room) (slots_again slots (length homes) len) again lays laid i,
    ))

    -- the entries of a layout have the same sum by slot as by home
    pub layout-sum : (w : E → ℕ) → sum_by (λ s. w s.entry) (entries (layout homes)) ≡ window (λ h. sum_by w (listed homes h)) 0 (length homes)
    layout-sum w = grind (
      arith,
      entries-sum w (layout homes),
      length-layout homes,
      laid-sum (length homes) (listed homes) (slot_at (layout homes)) (roomy-of homes room) laid w (listed-again homes)
          again,
      window-same (λ n. weight w (get_or (layout homes) n None)) (λ n. weight w (slot_at (layout homes) n)) 0 (length (layout homes)) (λ j l. grind (arith, mod-eq_of_lt l)),
    )

    laid-total : length (entries (layout homes)) ≡ total homes
    laid-total = omega (
      arith,
      sum_by_one (entries (layout homes)),
      layout-sum (λ _. 1),
      sum-window length homes,
      window-same (λ h. sum_by (λ _. 1) (listed homes h)) (count homes) 0 (length homes) (λ j _. sum_by_one (listed homes (0 + j))),
    )

    -- an entry of a list is where the layout puts it
    pub layout-standing : (h i : ℕ) (e : E) → slice_get (listed homes h) i ≡ Some e → slot_at (layout homes) (h + spill_of homes h + i) ≡ Some (placed (spill_of homes h + i) e)
    layout-standing = laid.standing

    read_back : homes_of (layout homes) ≡ homes
    read_back = ext_get_or [] (homes_of (layout homes)) homes (length-homes_of (layout homes) ∙ length-layout homes) (λ i l. grind (
      arith,
      length-homes_of (layout homes),
      mod-eq_of_lt l,
      listed-homes_of (layout homes) i,
      length-layout homes,
      laid-met (length homes) (listed homes) (slot_at (layout homes)) (roomy-of homes room) laid again (listed-again homes) i,
    ))

    tidy_off : total homes ≤ capacity (length homes) → IsTidy (layout homes)
    tidy_off l = record {
      ordered = laid-ordered (length homes) (listed homes) (slot_at (layout homes)) (roomy-of homes room) laid again;
      room = grind (arith, laid-total, length-layout homes);
    }

  vacant_in : (slots : List (Option (Placed E))) → length (entries slots) < length slots → (v : ℕ) × (v < length slots) × (get_or slots v None ≡ None)
  vacant_in [] l = absurd (omega arith)
  vacant_in (None ∷ slots) l = (0, omega arith, refl)
  vacant_in (Some s ∷ slots) l = let r = vacant_in slots (omega arith) in (suc r.0, omega arith, r.2)

  -- a tidy table has an empty slot
  pub tidy-vacant : (slots : List (Option (Placed E))) → IsTidy slots → 0 < length slots → (v : ℕ) × (slot_at slots v ≡ None)
  tidy-vacant slots tidy some = let v = vacant_in slots (omega (arith, tidy.room, capacity-lt (length slots) some)) in (v.0, rw (mod-eq_of_lt v.1) v.2)

  module _ (slots : List (Option (Placed E))) (tidy : IsTidy slots) (some : 0 < length slots) where
    abbrev vacancy : (v : ℕ) × (slot_at slots v ≡ None)
    vacancy = tidy-vacant slots tidy some

    -- tidy slots lay out the lists read off them
    pub read-laid : IsLaid (length slots) (listed (homes_of slots)) (slot_at slots)
    read-laid = subst (λ L. IsLaid (length slots) L (slot_at slots)) (λ i n. sym (listed-homes_of slots n) i)
        (ordered-laid (slot_at slots) tidy.ordered (length slots) (slot-again slots) some vacancy.0 vacancy.1)

    pub read-room : total (homes_of slots) < length slots
    read-room =
        let r = lists-roomy (slot_at slots) tidy.ordered (length slots) (slot-again slots) some vacancy.0 vacancy.1 in
        grind (arith, r.room, sum-window length (homes_of slots), length-homes_of slots, window-same (count (homes_of slots)), listed-homes_of)

    pub read-layout : slots ≡ layout (homes_of slots)
    read-layout = laid-layout (homes_of slots) (omega (arith, read-room, length-homes_of slots)) slots (sym (length-homes_of slots)) (rw (length-homes_of slots) read-laid)

  -- the layout of no more entries than the capacity shows the lists that it lays out, has as many entries, and is tidy
  read_off : (homes : List (List E)) → total homes ≤ capacity (length homes) → (homes_of (layout homes) ≡ homes) × (length (entries (layout homes)) ≡ total homes) × IsTidy (layout homes)
  unfolding homes_of layout
  read_off [] l = (refl, refl, record { ordered = record { next = λ n. omega arith }; room = omega arith })
  read_off (es ∷ homes) l =
      let room : total (es ∷ homes) < length (es ∷ homes) = omega (arith, capacity-lt (suc (length homes)) (omega arith)) in
      (read_back (es ∷ homes) room, laid-total (es ∷ homes) room, tidy_off (es ∷ homes) room l)

  -- a layout shows the lists that it lays out
  pub layout-read : (homes : List (List E)) → total homes ≤ capacity (length homes) → homes_of (layout homes) ≡ homes
  layout-read homes l = (read_off homes l).0

  -- there are as many entries by slot as by home
  pub layout-total : (homes : List (List E)) → total homes ≤ capacity (length homes) → length (entries (layout homes)) ≡ total homes
  layout-total homes l = (read_off homes l).1

  -- the layout of no more entries than the capacity is tidy
  pub layout-tidy : (homes : List (List E)) → total homes ≤ capacity (length homes) → IsTidy (layout homes)
  layout-tidy homes l = (read_off homes l).2

  -- and tidy slots are the layout of the lists that are read off them
  pub tidy-layout : (slots : List (Option (Placed E))) → IsTidy slots → slots ≡ layout (homes_of slots)
  unfolding homes_of layout
  tidy-layout [] tidy = refl
  tidy-layout (s ∷ slots) tidy = read-layout (s ∷ slots) tidy (omega arith)

  pub tidy-total : (slots : List (Option (Placed E))) → IsTidy slots → total (homes_of slots) ≡ length (entries slots)
  unfolding homes_of
  tidy-total [] tidy = refl
  tidy-total (s ∷ slots) tidy = grind (arith, read-room (s ∷ slots) tidy, length-homes_of (s ∷ slots), tidy-layout (s ∷ slots) tidy, laid-total (homes_of (s ∷ slots)))

  pub tidy-room : (slots : List (Option (Placed E))) → IsTidy slots → total (homes_of slots) ≤ capacity (length (homes_of slots))
  tidy-room slots tidy = omega (arith, tidy.room, tidy-total slots tidy, ap capacity (length-homes_of slots))

-- there are as many homes as slots
pub ruleset homes_length = (length-homes_of)
