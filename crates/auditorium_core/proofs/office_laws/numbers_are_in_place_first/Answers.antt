use Rattle.auditorium_core.proofs.office_laws.numbers_are_in_place_first.Goals as goal
use Rattle.auditorium_core.proofs.{Imports.IsAny, Imports.IsStill, SignedInTurn.signed_in_turn}

pub returns : goal.returns
returns g c = record {
  any = λ words name file store store_after out out_after how means.
      signed_in_turn g.S.Store g.K.Sink IsAny words name file tt means store store_after out out_after how;
  still = λ words name file store store_after out out_after how means.
      signed_in_turn g.S.Store g.K.Sink IsStill words name file tt means store store_after out out_after how;
}
