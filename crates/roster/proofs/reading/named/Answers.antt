use Rattle.roster.proofs.reading.named.Goals as goal
use Rattle.roster.proofs.{Imports.ap, Imports.List, Imports.ℕ, Imports.◌∙◌, Raws.name_is_text}

-- a name is text, so nothing of it is replaced
pub returns : goal.returns
returns c =
    let name = c.new.ensures ∙ c.in_ok-name.ensures.ok (name_is_text c.args.raw.now.name.now c.requires) in
    ap (λ (n : List ℕ). record { name = n; role = c.args.raw.now.role; key = c.args.raw.now.key }) name
