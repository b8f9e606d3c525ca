-- What a cache holds was inserted by an earlier request, so what it returns is live.
use Rattle.std.proofs.Common.{◌≡◌, ℕ, suc, ◌+◌, ◌≤◌, arith, eqb, inl, inr, List, [], ◌∷◌, ◌++◌, Option, Some, None, true, false, Bool, refl, sym, ap, ◌∙◌, subst, ne_eqb, map, if◌then◌else◌, length}
use Rattle.std.specs.Prelude.{◌-◌, ◌^◌, nat_lt, min, slice_get}
use Rattle.std.specs.Option.{option_and_then, option_map}
use Rattle.std.specs.List.{find}
use Rattle.std.specs.Cmp.{nat_eq_equiv}
use Rattle.std.proofs.lemmas.Bool.{cases_eq, ltb-true}
use Rattle.clock2q_machine.specs.Calls.{Get, Put, Remove, Retain}
use Rattle.clock2q_machine.specs.Entries.{SmallEntry, MainEntry}
use Rattle.clock2q_machine.specs.Machine.{Machine, by_slot, hit, removed, resident_count, slot_of, value_of}
use Rattle.clock2q_machine.specs.Steps.{put}
use Rattle.clock2q_machine.specs.Whole.{IsWhole}
use Rattle.clock2q_machine.proofs.Whole.{none_is, some_is}
use Rattle.clock2q_machine.proofs.MachineInvariant.{lasting-after}
use Rattle.clock2q_machine.proofs.Laws.{others_had, put_there}
use Rattle.clock2q_uses.specs.declared.expiring.Timed.{Timed}
use Rattle.clock2q_uses.specs.declared.expiring.Request.{Request}
use Rattle.clock2q_uses.specs.declared.expiring.Request.TheVariants.{Insert, Get as Look, Expire}
use Rattle.clock2q_uses.specs.Expiring.{live, timed, removed_if, after_get, is_live, reply_to, after_request, replies, after_requests, IsLive, IsInTime, AreInTime}

capped : (n : ℕ) → min n (2 ^ 64 - 1) ≤ n
capped n = search arith

module _ {V : Type 0} where
  none_resident : (m : Machine ℕ (Timed V)) → resident_count m ≡ 0 → (key : ℕ) → slot_of (eqb key) m ≡ None
  none_resident m empty key = by_lists m.small m.main empty where
    by_lists : (small : List (SmallEntry ℕ)) (main : List (MainEntry ℕ)) → length small + length main ≡ 0
        → option_map (λ (r : ℕ × ℕ). r.1) (find (λ r. eqb key r.0) (map (λ e. (e.key, e.slot)) small ++ map (λ e. (e.key, e.slot)) main)) ≡ None
    by_lists [] [] e = refl
    by_lists [] (x ∷ main) e = absurd (omega (arith, e))
    by_lists (x ∷ small) main e = absurd (omega (arith, e))

  -- one of these requests inserted this value for the key, with this deadline at the earliest
  record WasInserted (earlier : List (ℕ × Request V)) (key : ℕ) (held : Timed V) : Type 0 where
    inserted : ℕ
    lifetime : ℕ
    place : ℕ
    asked : slice_get earlier place ≡ Some (inserted, Insert key held.value lifetime)
    until : held.deadline ≤ inserted + lifetime

  abbrev WereInserted : List (ℕ × Request V) → Machine ℕ (Timed V) → Type 0
  WereInserted earlier m = (key : ℕ) (held : Timed V) → value_of (eqb key) m ≡ Some held → WasInserted earlier key held

  one_more : (r : ℕ × Request V) (earlier : List (ℕ × Request V)) (key : ℕ) (held : Timed V) → WasInserted earlier key held → WasInserted (r ∷ earlier) key held
  one_more r earlier key held w = record { inserted = w.inserted; lifetime = w.lifetime; place = suc w.place; asked = w.asked; until = w.until }

  module _ (earlier : List (ℕ × Request V)) (m : Machine ℕ (Timed V)) (whole : IsWhole eqb m) (were : WereInserted earlier m) where
    whole_after_get : (now key : ℕ) → IsWhole eqb (after_get now key m)
    whole_after_get now key = by_value (value_of (eqb key) m) where
      hit_whole : IsWhole eqb (hit (eqb key) m)
      hit_whole = lasting-after eqb nat_eq_equiv (Get key) m whole

      by_value : (o : Option (Timed V)) → IsWhole eqb (removed_if now key o (hit (eqb key) m))
      by_value None = hit_whole
      by_value (Some held) = elim (nat_lt now held.deadline) as (λ b. IsWhole eqb (if b then hit (eqb key) m else removed (eqb key) (hit (eqb key) m))) [
        | true ↦ hit_whole
        | false ↦ lasting-after eqb nat_eq_equiv (Remove key) (hit (eqb key) m) hit_whole
      ]

    -- a get brings no value
    were_after_get : (now key : ℕ) → WereInserted earlier (after_get now key m)
    were_after_get now key = by_value (value_of (eqb key) m) where
      hit_were : WereInserted earlier (hit (eqb key) m)
      hit_were k held found = were k held (others_had eqb nat_eq_equiv m whole (Get key) k tt held found)

      removed_were : WereInserted earlier (removed (eqb key) (hit (eqb key) m))
      removed_were k held found =
          hit_were k held (others_had eqb nat_eq_equiv (hit (eqb key) m) (lasting-after eqb nat_eq_equiv (Get key) m whole) (Remove key) k tt held found)

      by_value : (o : Option (Timed V)) → WereInserted earlier (removed_if now key o (hit (eqb key) m))
      by_value None = hit_were
      by_value (Some held) = elim (nat_lt now held.deadline) as (λ b. WereInserted earlier (if b then hit (eqb key) m else removed (eqb key) (hit (eqb key) m))) [
        | true ↦ hit_were
        | false ↦ removed_were
      ]

    whole_after : (now : ℕ) (request : Request V) → IsWhole eqb (after_request now request m)
    whole_after now (Insert key value lifetime) = lasting-after eqb nat_eq_equiv (Put key (timed value now lifetime)) m whole
    whole_after now (Look key) = whole_after_get now key
    whole_after now Expire = lasting-after eqb nat_eq_equiv (Retain (map (λ r. is_live now (slice_get m.values r.1)) (by_slot m))) m whole

    were_after : (now : ℕ) (request : Request V) → WereInserted ((now, request) ∷ earlier) (after_request now request m)
    were_after now (Insert key value lifetime) k held found = elim (cases_eq k key) [
      | inl same ↦
          let new = put (eqb key) key (timed value now lifetime) m in
          let is : held ≡ timed value now lifetime = some_is held (timed value now lifetime) (sym found ∙ ap (λ k. value_of (eqb k) new) same ∙ put_there eqb nat_eq_equiv m whole key (timed value now lifetime)) in
          subst (λ k. WasInserted ((now, Insert key value lifetime) ∷ earlier) k held) (sym same)
          (subst (WasInserted ((now, Insert key value lifetime) ∷ earlier) key) (sym is) (just_inserted key value lifetime))
      | inr differ ↦ one_more (now, Insert key value lifetime) earlier k held
          (were k held (others_had eqb nat_eq_equiv m whole (Put key (timed value now lifetime)) k (ne_eqb k key differ) held found))
    ] where
      just_inserted : (key : ℕ) (value : V) (lifetime : ℕ) → WasInserted ((now, Insert key value lifetime) ∷ earlier) key (timed value now lifetime)
      just_inserted key value lifetime = record { inserted = now; lifetime = lifetime; place = 0; asked = refl; until = capped (now + lifetime) }
    were_after now (Look key) k held found = one_more (now, Look key) earlier k held (were_after_get now key k held found)
    were_after now Expire k held found =
        one_more (now, Expire) earlier k held (were k held (others_had eqb nat_eq_equiv m whole (Retain (map (λ r. is_live now (slice_get m.values r.1)) (by_slot m))) k tt held found))

    -- what is live was inserted less than its lifetime ago
    live_inserted : (now key : ℕ) (value : V) → live now (value_of (eqb key) m) ≡ Some value → IsLive earlier now key value
    live_inserted now key value = by_value (value_of (eqb key) m) refl where
      by_value : (o : Option (Timed V)) → value_of (eqb key) m ≡ o → live now o ≡ Some value → IsLive earlier now key value
      by_value None absent = λ none. absurd (none_is value none)
      by_value (Some held) found = by_deadline (nat_lt now held.deadline) refl where
        by_deadline : (b : Bool) → nat_lt now held.deadline ≡ b → (if b then Some held.value else None) ≡ Some value → IsLive earlier now key value
        by_deadline false past = λ none. absurd (none_is value none)
        by_deadline true before = λ some.
            let was = were key held found in
            record {
              inserted = was.inserted;
              lifetime = was.lifetime;
              place = was.place;
              asked = subst (λ v. slice_get earlier was.place ≡ Some (was.inserted, Insert key v was.lifetime)) (some_is held.value value some) was.asked;
              lives = omega (arith, ltb-true now held.deadline before, was.until);
            }

    in_time : (now : ℕ) (request : Request V) → IsInTime earlier now request (reply_to now request m)
    in_time now (Insert key value lifetime) = by_reply (live now (value_of (eqb key) m)) refl where
      by_reply : (o : Option V) → live now (value_of (eqb key) m) ≡ o → IsInTime earlier now (Insert key value lifetime) o
      by_reply None is = tt
      by_reply (Some v) is = live_inserted now key v is
    in_time now (Look key) = by_reply (live now (value_of (eqb key) m)) refl where
      by_reply : (o : Option V) → live now (value_of (eqb key) m) ≡ o → IsInTime earlier now (Look key) o
      by_reply None is = tt
      by_reply (Some v) is = live_inserted now key v is
    in_time now Expire = tt

  -- whatever the requests
  all_in_time : (earlier rs : List (ℕ × Request V)) (m : Machine ℕ (Timed V)) → IsWhole eqb m → WereInserted earlier m → AreInTime earlier rs (replies rs m)
  all_in_time earlier [] m whole were = tt
  all_in_time earlier (r ∷ rs) m whole were =
      (in_time earlier m whole were r.0 r.1, all_in_time (r ∷ earlier) rs (after_request r.0 r.1 m) (whole_after earlier m whole were r.0 r.1) (were_after earlier m whole were r.0 r.1))

  -- an empty cache holds nothing that wasn't inserted
  pub from_empty : (rs : List (ℕ × Request V)) (m : Machine ℕ (Timed V)) → IsWhole eqb m → resident_count m ≡ 0 → AreInTime [] rs (replies rs m)
  from_empty rs m whole empty = all_in_time [] rs m whole none_held where
    none_held : WereInserted [] m
    none_held key held found = absurd (none_is held (sym (ap (option_and_then (slice_get m.values)) (none_resident m empty key)) ∙ found))

  -- one request more
  pub replies_more : (rs : List (ℕ × Request V)) (now : ℕ) (request : Request V) (m : Machine ℕ (Timed V)) →
      replies (rs ++ (now, request) ∷ []) m ≡ replies rs m ++ reply_to now request (after_requests rs m) ∷ []
  replies_more [] now request m = refl
  replies_more (r ∷ rs) now request m = ap (λ rest. reply_to r.0 r.1 m ∷ rest) (replies_more rs now request (after_request r.0 r.1 m))

  pub after_more : (rs : List (ℕ × Request V)) (now : ℕ) (request : Request V) (m : Machine ℕ (Timed V)) →
      after_requests (rs ++ (now, request) ∷ []) m ≡ after_request now request (after_requests rs m)
  after_more [] now request m = refl
  after_more (r ∷ rs) now request m = after_more rs now request (after_request r.0 r.1 m)
