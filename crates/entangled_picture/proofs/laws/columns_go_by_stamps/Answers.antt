use Rattle.entangled_picture.proofs.Imports.{[], arith, map, drawn_of, seen_of}
use Rattle.entangled_picture.proofs.StampOrder.{chained, ordered}
use Rattle.entangled_picture.proofs.laws.columns_go_by_stamps.Goals as goal

pub returns : goal.returns
returns c = λ graph verdicts kept.
    let drawn = drawn_of graph verdicts (map seen_of graph.survivors) in
    ordered 0 0 _ (chained graph.survivors drawn [] 0 0 (λ k d within. omega arith) kept.numbered)
