-- A page that is copied into a frame is there, and the others are where they were.
use Rattle.std.proofs.Common.{◌≡◌, ◌≢◌, ℕ, zero, suc, ◌<◌, List, [], ◌∷◌, inl, inr, length, Option, Some, refl, sym, ap, ◌∙◌, arith}
use Rattle.std.specs.Prelude.{slice_get, slice_set}
use Rattle.std.proofs.lemmas.Bool.{cases_eq}
use Rattle.clock2q_machine.specs.Machine.{Machine}
use Rattle.clock2q_pages.specs.Pages.{IsLoaded}
use Rattle.clock2q_uses.specs.Pages.{AreLoaded}

module _ {T : Type 0} where
  pub set_there : (frames : List T) (slot : ℕ) (content : T) → slot < length frames → slice_get (slice_set frames slot content) slot ≡ Some content
  set_there [] slot content made = absurd (omega arith)
  set_there (f ∷ frames) zero content made = refl
  set_there (f ∷ frames) (suc slot) content made = set_there frames slot content (omega arith)

  set_elsewhere : (frames : List T) (slot : ℕ) (content : T) (at : ℕ) → at ≢ slot → slice_get (slice_set frames slot content) at ≡ slice_get frames at
  set_elsewhere [] slot content at differ = refl
  set_elsewhere (f ∷ frames) zero content zero differ = absurd (differ refl)
  set_elsewhere (f ∷ frames) zero content (suc at) differ = refl
  set_elsewhere (f ∷ frames) (suc slot) content zero differ = refl
  set_elsewhere (f ∷ frames) (suc slot) content (suc at) differ = set_elsewhere frames slot content at (λ same. differ (ap suc same))

  pub copied_loaded : (file frames : List T) (old new : Machine ℕ (Option ℕ)) (page frame : ℕ) (content : T) → slice_get file page ≡ Some content → frame < length frames → IsLoaded new page frame
      → ((other at : ℕ) → at ≢ frame → IsLoaded new other at → IsLoaded old other at) → AreLoaded file old frames → AreLoaded file new (slice_set frames frame content)
  copied_loaded file frames old new page frame content there within loaded keeps before other at is = elim (cases_eq at frame) [
    | inl same ↦
        let one : Some (Some other) ≡ Some (Some page) = sym is ∙ ap (slice_get new.values) same ∙ loaded in
        let equal : other ≡ page = cc in
        ap (slice_get (slice_set frames frame content)) same ∙ set_there frames frame content within ∙ sym there ∙ ap (slice_get file) (sym equal)
    | inr differ ↦ set_elsewhere frames frame content at differ ∙ before other at (keeps other at differ is)
  ]
