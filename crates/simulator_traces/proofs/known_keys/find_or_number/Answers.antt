use Rattle.std.proofs.Common.{◌≡◌, ◌≢◌, ◌<◌, ◌^◌, ◌∙◌, ℕ, nat_eq, [], Some, Err, slice_get, length, get_or, refl, sym, ap, subst, arith, rules}
use Rattle.std.specs.Cmp.Lexicographic.{pointwise}
use Rattle.clock2q_handles.specs.declared.error.TableError.TheVariants.{Memory}
use Rattle.clock2q_handles.specs.Homes.{candidates}
use Rattle.clock2q_handles.specs.Offers.{Settles}
use Rattle.clock2q_handles.specs.TableStep.{grown}
use Rattle.clock2q_handles.proofs.HashOfHandle.{keyed_given_by}
use Rattle.clock2q_handles.proofs.Offering.{IsFound, offered_held_by, offers_find}
use Rattle.simulator_traces.specs.KnownKeys.{AreKept, hash_of, keys_in}
use Rattle.simulator_traces.proofs.KeyBytes.{keys-length}
use Rattle.simulator_traces.proofs.KnownKeys.{hash_at, is_key, numbered, offered_within, settled}
use Rattle.simulator_traces.proofs.known_keys.find_or_number.Goals as goal

pub find_or_insert-requires-clause-rehash : goal.find_or_insert-requires-clause-rehash
find_or_insert-requires-clause-rehash g c =
    let others = c.args.others.now in
    let records = c.args.records.now in
    let known = keys_in others records in
    let hasher = c.args.hasher.now in
    let hash = hash_of g.S.BuildHasher g.S.Hasher.Hasher hasher in
    λ _. (
      hash_at hash known,
      keyed_given_by (hash_at hash known) _ c.args.numbers.now.homes (λ f. (f.0.now ≡ others) × (f.1.now ≡ records) × (f.2.now ≡ hasher))
          (λ f h same held.
          let within : h < length f.1.now = omega (arith, (c.requires.indexed.held h).0 held, keys-length others records, ap length same.1) in
          let ordered : AreKept (length f.0.now) f.1.now = rw (same.0, same.1) c.requires.kept in
          search rules)
          (λ f h r next same held called.
          let shown : r ≡ hash_of g.S.BuildHasher g.S.Hasher.Hasher f.2.now (get_or (keys_in f.0.now f.1.now) h []) = search rules in
          let first : next.0.now ≡ f.0.now = search rules in
          let second : next.1.now ≡ f.1.now = search rules in
          let third : next.2.now ≡ f.2.now = search rules in
          (rw (same.0, same.1, same.2) at shown, (first ∙ same.0, second ∙ same.1, third ∙ same.2)))
          _ (refl, refl, refl) c.requires.indexed.hashes,
    )

pub find_or_insert-requires-clause-callable : goal.find_or_insert-requires-clause-callable
find_or_insert-requires-clause-callable g c =
    let others = c.args.others.now in
    let records = c.args.records.now in
    let known = keys_in others records in
    λ key gives. offered_held_by _ _ _ c.args.numbers.now.homes c.hash_of.result (λ f. (f.0.now ≡ others) × (f.1.now ≡ records))
    (λ f h same held.
    let within : h < length f.1.now = omega (arith, (c.requires.indexed.held h).0 held, keys-length others records, ap length same.1) in
    let ordered : AreKept (length f.0.now) f.1.now = rw (same.0, same.1) c.requires.kept in
    search rules)
    (λ f h next same held called.
    let first : next.0.now ≡ f.0.now = search rules in
    let second : next.1.now ≡ f.1.now = search rules in
    (first ∙ same.0, second ∙ same.1))
    _ (refl, refl) key gives

pub returns : goal.returns
returns g c =
    let others = c.args.others.now in
    let records = c.args.records.now in
    let key = c.args.key.now in
    let known = keys_in others records in
    let hasher = c.args.hasher.now in
    let hash = hash_of g.S.BuildHasher g.S.Hasher.Hasher hasher in
    let homes = c.args.numbers.now.homes in
    let long = keys-length others records in
    let few : length known < 2 ^ 32 = omega (arith, long, c.requires.next, c.ranges.next) in
    let gives = keyed_given_by (hash_at hash known) _ homes (λ f. (f.0.now ≡ others) × (f.1.now ≡ records) × (f.2.now ≡ hasher))
    (λ f h same held.
    let within : h < length f.1.now = omega (arith, (c.requires.indexed.held h).0 held, keys-length others records, ap length same.1) in
    let ordered : AreKept (length f.0.now) f.1.now = rw (same.0, same.1) c.requires.kept in
    search rules)
    (λ f h r next same held called.
    let shown : r ≡ hash_of g.S.BuildHasher g.S.Hasher.Hasher f.2.now (get_or (keys_in f.0.now f.1.now) h []) = search rules in
    let first : next.0.now ≡ f.0.now = search rules in
    let second : next.1.now ≡ f.1.now = search rules in
    let third : next.2.now ≡ f.2.now = search rules in
    (rw (same.0, same.1, same.2) at shown, (first ∙ same.0, second ∙ same.1, third ∙ same.2)))
    _ (refl, refl, refl) c.requires.indexed.hashes in
    let ran = λ (other : c.find_or_insert.result ≢ Err Memory).
    let settles = c.find_or_insert.ensures.settles other in
    let done = settles.1 (hash_at hash known) (λ _. gives) in
    let offers = offers_find _ (λ f. (f.0.now ≡ others) × (f.1.now ≡ records) × (f.2.now ≡ key)) (λ at. at < length known) (is_key known key)
    (λ f h b next same within called.
    let shown : b ≡ pointwise nat_eq (get_or (keys_in f.0.now f.1.now) h []) f.2.now = search rules in
    let first : next.0.now ≡ f.0.now = search rules in
    let second : next.1.now ≡ f.1.now = search rules in
    let third : next.2.now ≡ f.2.now = search rules in
    (rw (same.0, same.1, same.2) at shown, (first ∙ same.0, second ∙ same.1, third ∙ same.2)))
    (candidates (grown (hash_at hash known) homes) c.hash_of.result) _ done.0 settles.0 (refl, refl, refl)
    (subst (λ x. (i at : ℕ) → slice_get (candidates (grown (hash_at hash known) homes) x) i ≡ Some at → at < length known) (sym c.hash_of.ensures.hash)
    (offered_within hash known homes key c.requires.indexed)) done.1 in
    numbered hash known homes key c.requires.indexed done.0 c.find_or_insert.result c.find_or_insert.new.self.homes few
    (subst (λ x. Settles (grown (hash_at hash known) homes) x (length known) done.0 c.find_or_insert.result c.find_or_insert.new.self.homes) c.hash_of.ensures.hash
    (subst (λ n. Settles (grown (hash_at hash known) homes) c.hash_of.result n done.0 c.find_or_insert.result c.find_or_insert.new.self.homes) (c.requires.next ∙ sym long) done.2))
    (subst (λ x. IsFound (is_key known key) (candidates (grown (hash_at hash known) homes) x) done.0) c.hash_of.ensures.hash offers) in
    let all = settled hash known homes key c.requires.indexed c.find_or_insert.result c.find_or_insert.new.self.homes ran (λ e. ap (λ t. t.homes) (c.find_or_insert.ensures.memory e).1) in
    record { numbered = all.0; refused = all.1 }
