-- A text written piece by piece, and a text flushed.
use Rattle.std.proofs.Common.{◌≡◌, ℕ, ◌+◌, ◌-◌, ◌≤◌, Bool, false, true, ◌&&◌, eqb, ltb, List, [], ◌++◌, length, take, drop, Option, Some, None, Result, Ok, Err, refl, sym, ap, ◌∙◌, subst, arith, append_assoc, append-nil}
use Rattle.std.specs.Io.KnownBytes.{Appends, Keeps, WriteAppends}
use Rattle.std.proofs.Math.Seq.{take-add}
use Rattle.std.proofs.lemmas.Bool.{ne_eqb}
use Rattle.std.proofs.lemmas.List.{length-drop, take_all, drop-drop}
use Rattle.clock2q_ports.specs.Ports.{Traffic, traffic_after, after_write, after_flush, one_if}
use Rattle.clock2q_ports.specs.Transfer.{TookAll, TookSome, IsSent, Sends}

-- all of a text but the rest was taken
pub record IsTakenUpTo (old new : Traffic) (held holds : Option (List ℕ)) (text rest : List ℕ) : Type 0 where
  pub shorter : length rest ≤ length text
  pub left : rest ≡ drop (length text - length rest) text
  pub taken : TookAll old new held holds (take (length text - length rest) text)

-- known bytes grow twice
Appends-twice : (a b c : Option (List ℕ)) (xs ys : List ℕ) → Appends a b xs → Appends b c ys → Appends a c (xs ++ ys)
Appends-twice None b c xs ys h k = h
Appends-twice (Some x) None c xs ys h k = absurd h
Appends-twice (Some x) (Some y) None xs ys h k = k
Appends-twice (Some x) (Some y) (Some z) xs ys h k = k ∙ ap (λ v. v ++ ys) h ∙ append_assoc x xs ys

-- bytes pass twice
passed_twice : (old : Traffic) (xs ys : List ℕ) → traffic_after (traffic_after old xs false false) ys false false ≡ traffic_after old (xs ++ ys) false false
passed_twice old xs ys =
    let bytes : (old.bytes ++ xs) ++ ys ≡ old.bytes ++ (xs ++ ys) = append_assoc old.bytes xs ys in
    let stops : old.stops + 0 + 0 ≡ old.stops + 0 = omega arith in
    let failures : old.failures + 0 + 0 ≡ old.failures + 0 = omega arith in
    cc

-- a write that took some bytes didn't fail
took_some : (count : ℕ) (b : Bool) → (count ≡ 0 → ⊥) → eqb count 0 && b ≡ false
took_some count b h = rw (ne_eqb count 0 h) refl

-- one more piece was taken
pub IsTakenUpTo-more : {E : Type 0} (old mid new : Traffic) (held holds then : Option (List ℕ)) (text rest : List ℕ) (r : Result ℕ E) (count : ℕ)
    → IsTakenUpTo old mid held holds text rest → r ≡ Ok count → (count ≡ 0 → ⊥) → count ≤ length rest
    → new ≡ after_write mid r rest → WriteAppends holds then r rest → IsTakenUpTo old new held then text (take (length rest - count) (drop count rest))
IsTakenUpTo-more {E} old mid new held holds then text rest r count so e some few traffic appended =
    subst (λ xs. IsTakenUpTo old new held then text xs) (sym whole) (record {
      shorter = omega (arith, so.shorter, length-drop count rest);
      left = left ∙ ap (λ n. drop n text) (sym more);
      taken = record {
        taken = subst (λ xs. new ≡ traffic_after old xs false false) (sym front) (now ∙ ap (λ p. traffic_after p (take count rest) false false) so.taken.taken ∙ passed_twice old _ _);
        contents = subst (λ xs. Appends held then xs) (sym front) (Appends-twice held holds then _ _ so.taken.contents shown);
      };
    }) where
      whole : take (length rest - count) (drop count rest) ≡ drop count rest
      whole = take_all (length rest - count) (drop count rest) (omega (arith, length-drop count rest))

      more : length text - length (drop count rest) ≡ (length text - length rest) + count
      more = omega (arith, so.shorter, few, length-drop count rest)

      left : drop count rest ≡ drop ((length text - length rest) + count) text
      left = ap (drop count) so.left ∙ drop-drop count (length text - length rest) text

      front : take (length text - length (drop count rest)) text ≡ take (length text - length rest) text ++ take count rest
      front = ap (λ n. take n text) more ∙ take-add (length text - length rest) count text ∙ ap (λ xs. take (length text - length rest) text ++ take count xs) (sym so.left)

      now : new ≡ traffic_after mid (take count rest) false false
      now = traffic ∙ ap (λ x. after_write mid x rest) e ∙ ap (λ b. traffic_after mid (take count rest) false b) (took_some count (ltb 0 (length rest)) some)

      shown : Appends holds then (take count rest)
      shown = subst (λ x. WriteAppends holds then x rest) e appended

-- bytes pass, and then there is a stop or a failure
passed-end : (old : Traffic) (bytes : List ℕ) (stopped failed : Bool) → traffic_after (traffic_after old bytes false false) [] stopped failed ≡ traffic_after old bytes stopped failed
passed-end old bytes stopped failed =
    let all : (old.bytes ++ bytes) ++ [] ≡ old.bytes ++ bytes = append-nil (old.bytes ++ bytes) in
    let stops : old.stops + 0 + one_if stopped ≡ old.stops + one_if stopped = omega arith in
    let failures : old.failures + 0 + one_if failed ≡ old.failures + one_if failed = omega arith in
    cc

-- known bytes grow, and then stay
Appends-kept : (a b c : Option (List ℕ)) (xs : List ℕ) → Appends a b xs → Keeps b c → Appends a c xs
Appends-kept None b c xs h k = h
Appends-kept (Some x) None c xs h k = absurd h
Appends-kept (Some x) (Some y) None xs h k = k
Appends-kept (Some x) (Some y) (Some z) xs h k = k ∙ h

-- a text that was taken is flushed
IsSent-flushed : (old mid new : Traffic) (held holds then : Option (List ℕ)) (text : List ℕ) → TookAll old mid held holds text → new ≡ traffic_after mid [] true false → Keeps holds then → IsSent old new held then text
IsSent-flushed old mid new held holds then text took flushed kept = record {
  taken = flushed ∙ ap (λ p. traffic_after p [] true false) took.taken ∙ passed-end old text true false;
  contents = Appends-kept held holds then text took.contents kept;
}

-- or it isn't
TookSome-unflushed : (old mid new : Traffic) (held holds then : Option (List ℕ)) (text : List ℕ) → TookAll old mid held holds text → new ≡ traffic_after mid [] false true → Keeps holds then → TookSome old new held then text (length text)
TookSome-unflushed old mid new held holds then text took flushed kept =
    let whole : take (length text) text ≡ text = take_all (length text) text (omega arith) in
    record {
      taken = rw whole (flushed ∙ ap (λ p. traffic_after p [] false true) took.taken ∙ passed-end old text false true);
      contents = rw whole (Appends-kept held holds then text took.contents kept);
    }

-- whatever the flush returned
pub Sends-flushed : {E : Type 0} (old mid new : Traffic) (held holds then : Option (List ℕ)) (text : List ℕ) (r : Result (Unit {0}) E)
    → TookAll old mid held holds text → new ≡ after_flush mid r → Keeps holds then → Sends old new held then text r
Sends-flushed old mid new held holds then text (Ok done) took flushed kept = IsSent-flushed old mid new held holds then text took flushed kept
Sends-flushed old mid new held holds then text (Err failed) took flushed kept = (length text, TookSome-unflushed old mid new held holds then text took flushed kept)
