use Rattle.log_commands.proofs.Imports.{ap, arith, Post, refl, sym, ◌∙◌}
use Rattle.log_commands.proofs.EntryPlaces.{named_at, none_named}
use Rattle.log_commands.proofs.order.has_name.Goals as goal

pub returns-then-place-posts : goal.returns-then-place-posts
returns-then-place-posts c =
    named_at c.as_slice-posts.result.now c.args.roster.now.machines c.args.place c.index-posts-place.result
    c.as_bytes.result.now c.args.machine.now c.eq.result c.as_slice-posts.ensures c.if-place-posts.true
    c.index-posts-place.is
    (c.as_bytes.ensures.value ∙ c.as_str.ensures ∙ ap (λ (p : Post). p.name) (sym c.index-posts-place.is)) c.eq.ensures

pub returns-else-place-posts : goal.returns-else-place-posts
returns-else-place-posts c =
    none_named c.as_slice-posts.result.now c.args.roster.now.machines c.args.place c.args.machine.now _
    c.as_slice-posts.ensures (λ below. let past = c.if-place-posts.false in omega arith) refl
