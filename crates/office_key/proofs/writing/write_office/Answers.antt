use Rattle.std.proofs.Common.{sym, subst, rules}
use Rattle.canonical_sexp.specs.Text.{Fits}
use Rattle.office_key.proofs.OfficeTexts.{office_fits}
use Rattle.office_key.proofs.writing.write_office.Goals as goal

pub write-requires : goal.write-requires
write-requires c =
    subst (λ t. Fits t) (sym c.in_ok-tree.ensures) (office_fits c.args.office (search rules) (search rules))
