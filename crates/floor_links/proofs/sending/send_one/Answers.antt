use Rattle.floor_links.proofs.Imports.{◌≡◌, ℕ, List, [], ◌∷◌, ◌++◌, Some, refl, sym, ap, ◌∙◌, SealedEntry, Loss}
use Rattle.floor_links.proofs.Imports.{LossWhy, Scripted, LinkFull, loss_of}
use Rattle.floor_links.proofs.sending.send_one.Goals as goal

-- the loss that was written is that of the entry
told : (losses : List Loss) (e : SealedEntry) (from number to : ℕ) (why : LossWhy) → from ≡ e.entry.maker →
    number ≡ e.entry.number →
    losses ++ record { from = from; number = number; to = to; why = why } ∷ [] ≡ losses ++ loss_of e to why ∷ []
told losses e from number to why f n =
    ap (λ m. losses ++ record { from = m; number = number; to = to; why = why } ∷ []) f
    ∙ ap (λ k. losses ++ record { from = e.entry.maker; number = k; to = to; why = why } ∷ []) n

pub returns-then-scripted-clause-sent : goal.returns-then-scripted-clause-sent
returns-then-scripted-clause-sent g c = record {
  queue = refl;
  from = refl;
  cause = Some Scripted;
  way = (c.if-scripted.true, refl);
  losses = c.push_reserved.ensures.items
      ∙ told c.args.losses.now.items c.args.copy c.maker-from.result c.number-number.result c.args.to Scripted
      c.maker-from.ensures c.number-number.ensures;
}

pub returns-in-Err-clause-sent : goal.returns-in-Err-clause-sent
returns-in-Err-clause-sent g c = record {
  queue = c.put.ensures.end.0 ∙ sym c.requires.end.0;
  from = c.put.ensures.end.1 ∙ sym c.requires.end.1;
  cause = Some LinkFull;
  way = (c.if-scripted.false, c.in-Err.ensures.full);
  losses = c.push_reserved-in-Err.ensures.items
      ∙ told c.args.losses.now.items c.args.copy c.maker-from.result c.number-number.result c.args.to LinkFull
      c.maker-from.ensures c.number-number.ensures;
}
