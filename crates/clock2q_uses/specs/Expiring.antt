-- Values that expire: each is returned before its deadline alone.
use Rattle.std.specs.Prelude.{◌≡◌, ⊤, ℕ, ◌+◌, ◌-◌, ◌^◌, ◌<◌, Bool, false, eqb, min, nat_lt, if◌then◌else◌, List, [], ◌∷◌, map, slice_get, Option, Some, None}
use Rattle.clock2q_machine.specs.Machine.{Machine, by_slot, hit, removed, value_of}
use Rattle.clock2q_machine.specs.Steps.{put, retained}
use Rattle.clock2q_uses.specs.declared.expiring.Timed.{Timed}
use Rattle.clock2q_uses.specs.declared.expiring.Request.{Request}
use Rattle.clock2q_uses.specs.declared.expiring.Request.TheVariants.{Insert, Get, Expire}

module _ {V : Type 0} where
  -- the value, if it hasn't expired at this time
  abbrev pub live : ℕ → Option (Timed V) → Option V
  live now None = None
  live now (Some held) = if nat_lt now held.deadline then Some held.value else None

  -- a value that lives from now on
  abbrev pub timed : V → ℕ → ℕ → Timed V
  timed value now lifetime = record { value = value; deadline = min (now + lifetime) (2 ^ 64 - 1) }

  -- a key is removed if its value has expired
  abbrev pub removed_if : ℕ → ℕ → Option (Timed V) → Machine ℕ (Timed V) → Machine ℕ (Timed V)
  removed_if now key None m = m
  removed_if now key (Some held) m = if nat_lt now held.deadline then m else removed (eqb key) m

  -- it is hit first
  abbrev pub after_get : ℕ → ℕ → Machine ℕ (Timed V) → Machine ℕ (Timed V)
  after_get now key m = removed_if now key (value_of (eqb key) m) (hit (eqb key) m)

  -- whether a value is there that hasn't expired
  abbrev pub is_live : ℕ → Option (Timed V) → Bool
  is_live now None = false
  is_live now (Some held) = nat_lt now held.deadline

  -- what has expired is removed
  abbrev pub unexpired : ℕ → Machine ℕ (Timed V) → Machine ℕ (Timed V)
  unexpired now m = retained (map (λ resident. is_live now (slice_get m.values resident.1)) (by_slot m)) m

  -- what a request returns at a time
  abbrev pub reply_to : ℕ → Request V → Machine ℕ (Timed V) → Option V
  reply_to now (Insert key value lifetime) m = live now (value_of (eqb key) m)
  reply_to now (Get key) m = live now (value_of (eqb key) m)
  reply_to now Expire m = None

  -- and what it leaves
  abbrev pub after_request : ℕ → Request V → Machine ℕ (Timed V) → Machine ℕ (Timed V)
  after_request now (Insert key value lifetime) m = put (eqb key) key (timed value now lifetime) m
  after_request now (Get key) m = after_get now key m
  after_request now Expire m = unexpired now m

  -- the replies to a list of requests, each with its time, and what is left
  abbrev pub replies : List (ℕ × Request V) → Machine ℕ (Timed V) → List (Option V)
  replies [] m = []
  replies (r ∷ rs) m = reply_to r.0 r.1 m ∷ replies rs (after_request r.0 r.1 m)

  abbrev pub after_requests : List (ℕ × Request V) → Machine ℕ (Timed V) → Machine ℕ (Timed V)
  after_requests [] m = m
  after_requests (r ∷ rs) m = after_requests rs (after_request r.0 r.1 m)

  -- one of these requests inserted the value for the key, less than its lifetime before this time
  pub record IsLive (earlier : List (ℕ × Request V)) (now key : ℕ) (value : V) : Type 0 where
    pub inserted : ℕ
    pub lifetime : ℕ
    pub place : ℕ
    pub asked : slice_get earlier place ≡ Some (inserted, Insert key value lifetime)
    pub lives : now < inserted + lifetime

  -- the value that a request returns, if any, is live
  abbrev pub IsInTime : List (ℕ × Request V) → ℕ → Request V → Option V → Type 0
  IsInTime earlier now request None = ⊤
  IsInTime earlier now (Insert key other lifetime) (Some value) = IsLive earlier now key value
  IsInTime earlier now (Get key) (Some value) = IsLive earlier now key value
  IsInTime earlier now Expire (Some value) = ⊥

  -- each value that the requests return is live, if these came before them, the last one first
  abbrev pub AreInTime : List (ℕ × Request V) → List (ℕ × Request V) → List (Option V) → Type 0
  AreInTime earlier [] [] = ⊤
  AreInTime earlier [] (reply ∷ replies) = ⊥
  AreInTime earlier (r ∷ rs) [] = ⊥
  AreInTime earlier (r ∷ rs) (reply ∷ replies) = IsInTime earlier r.0 r.1 reply × AreInTime (r ∷ earlier) rs replies
