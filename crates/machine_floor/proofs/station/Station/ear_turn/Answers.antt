use Rattle.machine_floor.proofs.station.Station.ear_turn.Goals as goal
use Rattle.machine_floor.proofs.{EarLoops.counts, EarLoops.heard_more, Imports.add-one, Imports.ap, Imports.arith}
use Rattle.machine_floor.proofs.Imports.{HasLooked, History, inl, inr, IsOfLinks, length, LinkView, List, made_of, refl}
use Rattle.machine_floor.proofs.Imports.{SealedEntry, state_of, StationState, subst, sym, ℕ, ◌+◌, ◌<◌, ◌∙◌, ◌≡◌, ◌≤◌}
use Rattle.machine_floor.proofs.Linked.{ends_in, from_is, row_is, rows_are, same_inns, same_outs}
use Rattle.machine_floor.proofs.{Ticks.grown_none, Ticks.HasGrown, station.Station.ear_turn.Given.Over}
use Rattle.machine_floor.proofs.station.Station.ear_turn.Goals.{else-from-own, Then-from-own, then-from-own}

pub loop-from-init : goal.loop-from-init
loop-from-init g c = record {
  made = refl;
  grown = grown_none 1 c.args.self.now.ticks c.args.self.now.ticks refl;
  few = omega arith;
  looked = (refl, refl);
}

-- what is known where the ear looks at the link from a machine
record Looks (links : List (List LinkView)) (from own : ℕ) (s : StationState) : Type 0 where
  pub of : IsOfLinks links (made_of s)
  pub number : own ≡ s.machine.config.number
  -- it is a link of this station
  pub inside : from < length s.inns
  pub place : own < length s.outs
  pub many : length s.inns ≡ length s.outs

-- the station still has its links
looks : (g : Over) (c : Then-from-own g) → Looks c.args.links.now c.loop-from.from c.owner-own.result c.loop-from.self
looks g c =
    let first = state_of c.self.inside in
    let made : made_of c.loop-from.self ≡ made_of first =
    c.loop-from.invariant.made ∙ ap made_of (sym c.self.view_is) in
    let inns = same_inns first c.loop-from.self made in
    let outs = same_outs first c.loop-from.self made in
    let count : c.len-count.result ≡ length first.inns = c.len-count.ensures ∙ c.self.inside.inns.ok.0 in
    let many = c.self.invariant.0.as_many in
    let place = c.self.invariant.0.place in
    let own : c.owner-own.result ≡ first.machine.config.number = c.owner-own.ensures
    ∙ ap (λ (h : History SealedEntry). h.owner) c.log.ensures.log in
    record {
      of = subst (IsOfLinks c.args.links.now) (sym c.loop-from.invariant.made) c.requires;
      number = own ∙ sym (ap (λ (s : StationState). s.machine.config.number) made);
      inside = omega arith;
      place = omega arith;
      many = omega arith;
    }

pub link-requires-clause-from : goal.link-requires-clause-from
link-requires-clause-from g c =
    let k = looks g (goal.at.link-requires-clause-from g c).Then-from-own in
    let rows = rows_are c.args.links.now c.loop-from.self k.of in omega arith

pub link-requires-clause-to : goal.link-requires-clause-to
link-requires-clause-to g c =
    let k = looks g (goal.at.link-requires-clause-to g c).Then-from-own in
    let row = row_is c.args.links.now c.loop-from.self k.of c.loop-from.from (omega arith) in omega arith

pub ear_one-took-requires-clause-from : goal.ear_one-took-requires-clause-from
ear_one-took-requires-clause-from g c = (looks g (goal.at.ear_one-took-requires-clause-from g c).Then-from-own).inside

pub ear_one-took-requires-clause-other : goal.ear_one-took-requires-clause-other
ear_one-took-requires-clause-other g c = λ s.
    c.if-from-own.true (s ∙ sym (looks g (goal.at.ear_one-took-requires-clause-other g c).Then-from-own).number)

pub ear_one-took-requires-clause-end : goal.ear_one-took-requires-clause-end
ear_one-took-requires-clause-end g c = λ d.
    let k = looks g (goal.at.ear_one-took-requires-clause-end g c).Then-from-own in
    rw (c.link.ensures, k.number)
    (ends_in c.args.links.now c.loop-from.self k.of c.loop-from.from c.link.result.now d k.inside)

pub ear_one-took-requires-clause-sender : goal.ear_one-took-requires-clause-sender
ear_one-took-requires-clause-sender g c =
    let k = looks g (goal.at.ear_one-took-requires-clause-sender g c).Then-from-own in
    ap (λ (l : LinkView). l.from) c.link.ensures
    ∙ from_is c.args.links.now c.loop-from.self k.of c.loop-from.from c.owner-own.result c.link.result.now (omega arith)
    (omega arith)

pub loop-from-preserved : goal.loop-from-preserved
loop-from-preserved g c =
    let first = c.args.self.now in
    let own = c.owner-own.result in
    let i = c.loop-from.invariant in
    let few = i.few in
    let Goal : StationState → ℕ → Type 0 = λ s n. record {
      made : made_of s ≡ made_of first;
      grown : HasGrown 1 first.ticks s.ticks;
      few : n ≤ c.loop-from.from + 1;
      looked : HasLooked own (c.loop-from.from + 1) first s n;
    } in
    elim c.if-from-own.branch [
      | then-from-own w ↦
          (let (grown, made) = heard_more first c.loop-from.self w.ear_one-took.new.self c.loop-from.from
          w.ear_one-took.result i.grown w.ear_one-took.ensures in
          let count = w.from-heard.ensures in
          let (one, most) = counts w.ear_one-took.result in
          subst (λ s. Goal s c.if-from-own.heard) (sym w.self-is)
          (subst (λ n. Goal w.ear_one-took.new.self n) (sym w.heard-is) (record {
            made = made ∙ i.made;
            grown = grown;
            few = omega arith;
            looked = rw add-one (
              c.loop-from.self,
              c.loop-from.heard,
              i.looked,
              inr (
                w.if-from-own.true,
                (w.ear_one-took.result, w.ear_one-took.ensures, omega arith),
              ),
            );
          })))
      | else-from-own w ↦
          subst (λ s. Goal s c.if-from-own.heard) (sym w.self-is)
          (subst (λ n. Goal c.loop-from.self n) (sym w.heard-is) (record {
            made = i.made;
            grown = i.grown;
            few = omega arith;
            looked = rw add-one
                (c.loop-from.self, c.loop-from.heard, i.looked, inl (w.if-from-own.false, refl, refl));
          }))
    ]

pub returns : goal.returns
returns g c =
    let i = c.loop-from.invariant in
    let first = state_of c.self.inside in
    let own : c.owner-own.result ≡ c.args.self.now.machine.config.number = c.owner-own.ensures
    ∙ ap (λ (h : History SealedEntry). h.owner) c.log.ensures.log
    ∙ ap (λ (s : StationState). s.machine.config.number) c.self.view_is in
    let count : c.loop-from.from ≡ length c.args.self.now.inns =
    (let k : c.len-count.result ≡ length first.inns = c.len-count.ensures ∙ c.self.inside.inns.ok.0 in
    let v = ap (λ (s : StationState). length s.inns) c.self.view_is in omega arith) in
    record {
      made = i.made;
      ticks = (i.grown.more, i.grown.ticks, i.grown.passes);
      looked = subst (λ n. HasLooked n (length c.args.self.now.inns) c.args.self.now c.loop-from.self
          c.loop-from.heard) own
          (subst (λ k. HasLooked c.owner-own.result k c.args.self.now c.loop-from.self c.loop-from.heard) count
          i.looked);
    }
