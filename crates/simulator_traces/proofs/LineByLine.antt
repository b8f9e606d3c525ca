-- Lines taken out of a block of bytes.
use Rattle.std.proofs.Common.{◌≡◌, ℕ, ◌+◌, ◌-◌, ◌<◌, ◌≤◌, false, List, [], ◌∷◌, ◌++◌, Err, length, drop, get_or, eqb, sym, ap, subst, ◌∙◌, arith, append_assoc, take-append-drop}
use Rattle.std.specs.List.{between as part_of}
use Rattle.std.proofs.lemmas.List.{drop-drop, drop_more}
use Rattle.std.proofs.lemmas.List.Edits.{between_more}
use Rattle.std.proofs.lemmas.Slice.{between_to_end}
use Rattle.simulator_interface.specs.declared.error.SimulationError.{SimulationError}
use Rattle.simulator_interface.specs.declared.format.TraceFormat.{TraceFormat}
use Rattle.simulator_traces.specs.Formats.{Access, accesses_after}
use Rattle.simulator_traces.specs.Reading.{HasNoEnd, IsOfLines, between, joined}
use Rattle.simulator_traces.proofs.RecordByRecord.{Ends, after-line, joined-refused, longer-line}

module _ (part bytes : List ℕ) (start i : ℕ) (from : start ≤ i) where
  -- the line so far, with the next byte
  pub line-more : i < length bytes → HasNoEnd (part ++ part_of start i bytes) → eqb (get_or bytes i 0) 10 ≡ false → HasNoEnd (part ++ part_of start (i + 1) bytes)
  line-more l line e =
      let longer : part ++ part_of start (i + 1) bytes ≡ (part ++ part_of start i bytes) ++ get_or bytes i 0 ∷ [] =
      ap (λ xs. part ++ xs) (between_more bytes start i 0 from l) ∙ sym (append_assoc part (part_of start i bytes) (get_or bytes i 0 ∷ [])) in
      subst HasNoEnd (sym longer) (longer-line (part ++ part_of start i bytes) (get_or bytes i 0) line e)

  -- the line whose end is the next byte, and what follows
  pub line-split : (format : TraceFormat) → IsOfLines format → i < length bytes → get_or bytes i 0 ≡ 10
      → (next : List ℕ) → part ++ (drop start bytes ++ next) ≡ (part ++ part_of start i bytes) ++ (between format ++ (drop (i + 1) bytes ++ next))
  line-split format lined l ten next =
      let after = drop (i + 1) bytes ++ next in
      let place : start + (i - start) ≡ i = omega (arith, from) in
      let rest : drop (i - start) (drop start bytes) ≡ 10 ∷ drop (i + 1) bytes =
      drop-drop (i - start) start bytes ∙ ap (λ n. drop n bytes) place ∙ drop_more bytes i 0 l ∙ ap (λ b. b ∷ drop (i + 1) bytes) ten in
      let split : drop start bytes ≡ part_of start i bytes ++ 10 ∷ drop (i + 1) bytes =
      sym (take-append-drop (i - start) (drop start bytes)) ∙ ap (λ xs. part_of start i bytes ++ xs) rest in
      ap (λ xs. part ++ (xs ++ next)) split
      ∙ ap (λ xs. part ++ xs) (append_assoc (part_of start i bytes) (10 ∷ drop (i + 1) bytes) next)
      ∙ sym (append_assoc part (part_of start i bytes) (10 ∷ after))
      ∙ ap (λ xs. (part ++ part_of start i bytes) ++ (xs ++ after)) (sym (after-line format lined))

  module _ (format : TraceFormat) (lined : IsOfLines format) (l : i < length bytes) (ten : get_or bytes i 0 ≡ 10) (keys : List Access) (count : ℕ) where
    -- a line that ends
    pub line-ended : (more : List Access) (counted : ℕ) (rest : List ℕ) → rest ≡ [] → Ends keys more count counted (part ++ part_of start i bytes) format
        → (next : List ℕ) → joined keys (accesses_after format count (part ++ (drop start bytes ++ next))) ≡ joined more (accesses_after format counted (rest ++ (drop (i + 1) bytes ++ next)))
    line-ended more counted rest none ends next =
        let after = drop (i + 1) bytes ++ next in
        ap (λ xs. joined keys (accesses_after format count xs)) (line-split format lined l ten next) ∙ ends after ∙ ap (λ xs. joined more (accesses_after format counted (xs ++ after))) (sym none)

    -- a line that is bad
    pub line-bad : (now : TraceFormat) (first : List Access) (starting : ℕ) (begun : List ℕ) → now ≡ format
        → ((next : List ℕ) → joined first (accesses_after format starting (begun ++ (bytes ++ next))) ≡ joined keys (accesses_after format count (part ++ (drop start bytes ++ next))))
        → (refusal : SimulationError) → ((next : List ℕ) → accesses_after now count ((part ++ part_of start i bytes) ++ (between now ++ next)) ≡ Err refusal)
        → (next : List ℕ) → accesses_after format starting (begun ++ (bytes ++ next)) ≡ Err refusal
    line-bad now first starting begun e same refusal none next =
        let after = drop (i + 1) bytes ++ next in
        let line = part ++ part_of start i bytes in
        let bad : accesses_after format count (line ++ (between format ++ after)) ≡ Err refusal = ap (λ f. accesses_after f count (line ++ (between f ++ after))) (sym e) ∙ none after in
        joined-refused first (accesses_after format starting (begun ++ (bytes ++ next))) refusal
        (same next ∙ ap (λ xs. joined keys (accesses_after format count xs)) (line-split format lined l ten next) ∙ ap (joined keys) bad)

-- what is left after the last line end
pub line-left : (part bytes : List ℕ) (start n : ℕ) → length bytes ≤ n → HasNoEnd (part ++ part_of start n bytes) → HasNoEnd (part ++ drop start bytes)
line-left part bytes start n l line = subst (λ xs. HasNoEnd (part ++ xs)) (between_to_end bytes start n l) line
