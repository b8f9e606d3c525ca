use Rattle.std.proofs.Common.{rules, ◌≡◌, ◌<◌, length, get_or, subst, sym, ap, refl, ◌∙◌}
use Rattle.std.proofs.lemmas.List.{get_or_default}
use Rattle.clock2q_handles.proofs.HashOfHandle.{keyed_given_by}
use Rattle.clock2q_bench.proofs.Indexing.{hash_at, indices_put}
use Rattle.clock2q_bench.proofs.tables.insert_all.Goals as goal

pub insert-requires : goal.insert-requires
insert-requires c = record {
  rehash = λ _. (
    hash_at c.args.hashes.now,
    keyed_given_by (hash_at c.args.hashes.now) _ c.loop-handle.table.homes (λ f. f.0.now ≡ c.args.hashes.now)
        (λ f h same held.
        let l : h < length f.0.now = subst (λ ks. h < length ks) (sym same) (c.loop-handle.invariant.1 h held) in
        search rules)
        (λ f h r next same held called.
        let l : h < length f.0.now = subst (λ ks. h < length ks) (sym same) (c.loop-handle.invariant.1 h held) in
        let still : next.0.now ≡ f.0.now = search rules in
        let shown : r ≡ get_or f.0.now h r = search rules in
        (shown ∙ get_or_default f.0.now h r 0 l ∙ ap (λ ks. get_or ks h 0) same, still ∙ same))
        _ refl c.loop-handle.invariant.0,
  );
}

pub loop-handle-preserved : goal.loop-handle-preserved
loop-handle-preserved c =
    indices_put c.args.hashes.now c.loop-handle.table.homes c.loop-handle.invariant _ _ c.insert.new.self.homes _ _ c.insert.result c.in_ok-insert.field-0 c.in_ok-insert.was c.insert.ensures.put refl (search rules) (
    keyed_given_by (hash_at c.args.hashes.now) _ c.loop-handle.table.homes (λ f. f.0.now ≡ c.args.hashes.now)
    (λ f h same held.
    let l : h < length f.0.now = subst (λ ks. h < length ks) (sym same) (c.loop-handle.invariant.1 h held) in
    search rules)
    (λ f h r next same held called.
    let l : h < length f.0.now = subst (λ ks. h < length ks) (sym same) (c.loop-handle.invariant.1 h held) in
    let still : next.0.now ≡ f.0.now = search rules in
    let shown : r ≡ get_or f.0.now h r = search rules in
    (shown ∙ get_or_default f.0.now h r 0 l ∙ ap (λ ks. get_or ks h 0) same, still ∙ same))
    _ refl c.loop-handle.invariant.0)
