-- What a lookup yields, how many slots it reads, and where it ends.
use Rattle.std.specs.Prelude.{◌≡◌, ℕ, ◌+◌, ◌-◌, ◌%◌, ◌<◌, ◌≤◌, ◌==◌, ◌&&◌, Bool, false, List, [], map, filter, length, Option, Some, None, IfNone}
use Rattle.std.specs.Iterator.{YieldsFirst}
use Rattle.std.specs.Coded.{Coded, code_by, coded×, coded_ℕ, coded_bool, coded_list, coded_option}
use Rattle.std.specs.Fn.{Mut}
use Rattle.clock2q_handles.specs.Homes.{top}
use Rattle.clock2q_handles.specs.Offers.{AcceptsNext}
use Rattle.clock2q_handles.specs.Positions.{GapValue, gap_code, gap_from}
use Rattle.clock2q_handles.specs.Slots.{Mark, mark_of, mark_reach}
use Rattle.clock2q_handles.specs.Shifts.{HasCome}
use Rattle.clock2q_handles.specs.Layout.{Placed, placed, slot_at, reach, met, homes_of, walk, IsTidy, AreNear}
use mathlib.Core.Path.{refl}

-- what contracts see of a lookup: the handles left to yield, the number of slot reads so far and still to come, the number of handle reads, whether the lookup is at the first of the handles left,
-- and the gap where it ends, or None once it looks for nothing
pub record CandidatesValue (H : Type 0) : Type 0 where
  pub left : List H
  pub reads : ℕ
  pub unread : ℕ
  pub handles : ℕ
  pub peeked : Bool
  pub end : Option GapValue

abbrev pub candidates_value : {H : Type 0} → List H → ℕ → ℕ → ℕ → Bool → Option GapValue → CandidatesValue H
candidates_value left reads unread handles peeked end = record { left = left; reads = reads; unread = unread; handles = handles; peeked = peeked; end = end }

abbrev pub candidates_code : {H : Type 0} → Coded H → Coded (CandidatesValue H)
candidates_code {H} h =
    code_by (List H × (ℕ × (ℕ × (ℕ × (Bool × Option GapValue))))) (coded× (coded_list h) (coded× coded_ℕ (coded× coded_ℕ (coded× coded_ℕ (coded× coded_bool (coded_option gap_code))))))
    (λ c. (c.left, (c.reads, (c.unread, (c.handles, (c.peeked, c.end)))))) (λ p. candidates_value p.0 p.1.0 p.1.1.0 p.1.1.1.0 p.1.1.1.1.0 p.1.1.1.1.1) (λ _. refl)

-- a call yields the first handle that is left; the sum of what is read and what is still to be read stays the same, for slots and for handles, and at the end nothing is left to read
abbrev pub YieldsCandidate : {H : Type 0} → CandidatesValue H → Option H → CandidatesValue H → Type 0
YieldsCandidate s r t = YieldsFirst (λ c. c.left) s r t × (t.reads + t.unread ≡ s.reads + s.unread) × IfNone r (t.unread ≡ 0) × (t.handles + length t.left ≡ s.handles + length s.left)

-- whether a mark is this one
abbrev pub is_mark : ℕ × ℕ → Mark → Bool
is_mark s None = false
is_mark s (Some m) = (s.0 == m.0) && (s.1 == m.1)

module _ {H : Type 0} where
  -- the entries of x's home with its fingerprint in the slots from d past it on
  abbrev pub matching : ℕ → List (ℕ × H) → List (ℕ × H)
  matching x es = filter (λ e. e.0 == top x) es

  -- the handles that a walk for x still has to yield after d slots
  abbrev pub left_from : List (Option (Placed (ℕ × H))) → ℕ → ℕ → List H
  left_from slots x d = map (λ e. e.1) (matching x (met (slot_at slots) (x % length slots) d (length slots - d)))

  -- those that it has met
  abbrev pub met_before : List (Option (Placed (ℕ × H))) → ℕ → ℕ → List H
  met_before slots x d = map (λ e. e.1) (matching x (met (slot_at slots) (x % length slots) 0 d))

  -- and the number of slots that it still has to read
  abbrev pub unread_from : List (Option (Placed (ℕ × H))) → ℕ → ℕ → ℕ
  unread_from slots x d = walk (homes_of slots) x - d

  -- the home of a walk that has gone d slots, to slot n
  abbrev pub home_back : List (Option (Placed (ℕ × H))) → ℕ → ℕ → ℕ
  home_back slots n d = (n + length slots - d) % length slots

  -- the handles that a walk looking for the mark in slot n still has to yield: none if it looks for nothing
  abbrev pub left_at : List (Option (Placed (ℕ × H))) → Mark → ℕ → List H
  left_at slots None n = []
  left_at slots (Some s) n = map (λ e. e.1) (filter (λ e. e.0 == s.1) (met (slot_at slots) (home_back slots n s.0) s.0 (length slots - s.0)))

  -- and the number of slots that it still has to read
  abbrev pub unread_at : List (Option (Placed (ℕ × H))) → Mark → ℕ → ℕ
  unread_at slots None n = 0
  unread_at slots (Some s) n = walk (homes_of slots) (home_back slots n s.0) - s.0

  -- and where it ends
  abbrev pub end_at : List (Option (Placed (ℕ × H))) → Mark → ℕ → Option GapValue
  end_at slots None n = None
  end_at slots (Some s) n = Some (gap_from (homes_of slots) (home_back slots n s.0) s.1)

  -- whether a walk looking for the mark in slot n has found it there
  abbrev pub peeked_at : List (Option (Placed (ℕ × H))) → Mark → ℕ → Bool
  peeked_at slots None n = false
  peeked_at slots (Some s) n = is_mark s (mark_of (slot_at slots n))

  -- a walk for the hash has gone d slots, to slot n, and looks for the fingerprint f there
  pub record IsOnWalk (slots : List (Option (Placed (ℕ × H)))) (d f n : ℕ) : Type 0 where
    pub hash : ℕ
    pub slot : n ≡ (hash + d) % length slots
    pub fingerprint : f ≡ top hash
    pub within : d < length slots
    pub passed : (j : ℕ) → j < d → j < reach (slot_at slots (hash + j))

  -- the mark is what a walk that has reached slot n looks for there
  abbrev pub LooksFor : List (Option (Placed (ℕ × H))) → Mark → ℕ → Type 0
  LooksFor slots None n = Unit {0}
  LooksFor slots (Some s) n = IsOnWalk slots s.0 s.1 n

  -- the invariant of a lookup: the slots are tidy, and if it looks for something, it is on a walk
  pub record IsLookup (slots : List (Option (Placed (ℕ × H)))) (wanted : Mark) (n : ℕ) : Type 0 where
    pub tidy : IsTidy slots
    pub near : AreNear slots
    pub walk : LooksFor slots wanted n

  -- a walk for x has reached slot n, and looks for the mark there
  pub record IsWalkFor (slots : List (Option (Placed (ℕ × H)))) (x : ℕ) (wanted : Mark) (n : ℕ) : Type 0 where
    pub distance : ℕ
    pub come : HasCome slots (x % length slots) distance n
    pub mark : wanted ≡ Some (distance, top x)

  -- and ends there
  pub record EndsAt (slots : List (Option (Placed (ℕ × H)))) (x : ℕ) (wanted : Mark) (n : ℕ) : Type 0 where
    pub walk : IsWalkFor slots x wanted n
    pub stop : reach (slot_at slots n) < mark_reach wanted

  -- an entry of the home of x with its fingerprint and the handle v is in slot n
  pub record IsFoundAt (slots : List (Option (Placed (ℕ × H)))) (x : ℕ) (v : H) (n : ℕ) : Type 0 where
    pub distance : ℕ
    pub come : HasCome slots (x % length slots) distance n
    pub here : slot_at slots n ≡ Some (placed distance (top x, v))

  -- and is the first candidate that f accepted
  pub record IsAcceptedAt {F : Type 0} (g : Mut F (H × Unit {0}) Bool) (f : F) (slots : List (Option (Placed (ℕ × H)))) (x : ℕ) (v : H) (n : ℕ) : Type 0 where
    pub at : IsFoundAt slots x v n
    pub accepts : AcceptsNext g f (met_before slots x at.distance) v

  -- the next candidate of x from d slots past its home g on is n slots past g
  pub record IsNextCandidate (slots : List (Option (Placed (ℕ × H)))) (g x d n : ℕ) : Type 0 where
    pub handle : H
    pub here : slot_at slots (g + n) ≡ Some (placed n (top x, handle))
    pub from : d ≤ n
    pub within : n < length slots
    pub none_before : matching x (met (slot_at slots) g d (n - d)) ≡ []
    pub passed : (j : ℕ) → j < n → j < reach (slot_at slots (g + j))
