use Rattle.std.proofs.Common.{◌≡◌, ◌∙◌, ◌<◌, List, length, slice_index_or, ap, sym, arith, rules}
use Rattle.roster.specs.declared.post.Post.{Post}
use Rattle.entry_format.specs.Unsealing.{key_at}
use Rattle.entry_format.proofs.Keys.{key_is}
use Rattle.key_tests.proofs.sealed_tests.sealed_by.Goals as goal

-- the maker's key is the public key
pub seal-requires-clause-key : goal.seal-requires-clause-key
seal-requires-clause-key c =
    let machines : List Post = c.as_slice-machines.result.now in
    let post : Post = c.index-machines-place.result in
    let within : c.args.maker < length machines = omega arith in
    let same : (slice_index_or machines c.args.maker post).key ≡ c.bytes.result.now = search rules in
    sym c.public-public.ensures ∙ sym c.bytes.ensures.value ∙ sym same ∙ key_is machines c.args.maker post within
    ∙ ap (λ (ms : List Post). key_at ms c.args.maker) c.as_slice-machines.ensures
