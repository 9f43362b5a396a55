-- The stations of the first machines of a script, and what is left for the others.
use Rattle.machine_floor.proofs.Imports.{◌≡◌, ℕ, suc, ◌<◌, ◌≤◌, List, [], ◌∷◌, ◌++◌, length, map, refl, sym, ap, ◌∙◌}
use Rattle.machine_floor.proofs.Imports.{subst, arith, inl, inr, get_or, Option, Some, All, LinkView, IsLawful, Script}
use Rattle.machine_floor.proofs.Imports.{IsStopOf, Inns, Outs, AreNewLinks, Secret, AreNewStations, IsNewStation}
use Rattle.machine_floor.proofs.Imports.{IsOfLinks, StationState, made_of, IsBeginning, begun, push_cases, rest_none}
use Rattle.machine_floor.proofs.Imports.{rest_step, IsKeyOf, key_of, IsFresh, MachineState, add-one, drop}
use Rattle.machine_floor.proofs.Imports.{length-append, slice_get-get_or, slice_get_within, slice_get}
use Rattle.machine_floor.proofs.Drops.{drop_step, drop_none}
use Rattle.machine_floor.proofs.Beginnings.{beginning, new_station, the_outs, the_inns, l}

pub record AreFirst (script : Script) (links : List (List LinkView)) (outs : List Outs) (inns : List Inns)
    (stations : List StationState) (keys : List Secret) (outs_left : List Outs) (inns_left : List Inns) : Type 0 where
  -- there are no more of them than machines
  pub within : length stations ≤ length script.machines
  -- the keys that are left are those of the other machines
  pub rest : map (key_of script) (drop (length stations) script.machines) ≡ keys
  -- the ends that put are left for these
  pub puts : drop (length stations) outs ≡ outs_left
  -- the ends that take are left for the other machines
  pub takes : drop (length stations) inns ≡ inns_left
  -- each is the script's new station at its place
  pub each : (at : ℕ) (s : StationState) → slice_get stations at ≡ Some s → IsNewStation script links at s

module _ {script : Script} {links : List (List LinkView)} {outs outs_left : List Outs} {inns inns_left : List Inns}
    {stations : List StationState} {keys more : List Secret} {key : Secret} {at : ℕ}
    (first : AreFirst script links outs inns stations keys outs_left inns_left)
    (next : keys ≡ key ∷ more) (here : at ≡ length stations) where
  -- the next key is that of the next machine
  pub next_key : IsKeyOf script at key
  next_key =
      let (cast, there, key_is, _) =
      rest_step (key_of script) script.machines (length stations) key more (first.rest ∙ next) in
      (cast, ap (slice_get script.machines) here ∙ there, key_is)

  -- the script has a machine for the next key
  pub next_within : at < length script.machines
  next_within = slice_get_within script.machines at next_key.0 next_key.1

  module _ (lawful : IsLawful script) (are : AreNewLinks (length script.machines) script.link links outs inns) where
    -- ends are left for it
    pub outs_there : outs_left ≡ [] → ⊥
    outs_there none =
        let past = drop_none outs (length stations) (first.puts ∙ none) in
        let w = next_within in let c = are.puts_count in omega arith

    -- ends that take are left for it too
    pub inns_there : inns_left ≡ [] → ⊥
    inns_there none =
        let past = drop_none inns (length stations) (first.takes ∙ none) in
        let w = next_within in let c = are.takes_count in omega arith

    module _ (out : Outs) (outs_more : List Outs) (inn : Inns) (inns_more : List Inns)
        (out_next : outs_left ≡ out ∷ outs_more) (inn_next : inns_left ≡ inn ∷ inns_more)
        (stop : Option ℕ) (m : MachineState) (stops : IsStopOf script.stops at stop) (fresh : IsFresh script at stop m)
      where
        -- the next ends that put are those of the links from its machine
        out_is : out ≡ the_outs script lawful links outs inns are at stop m stops fresh
        out_is = sym ((drop_step outs (length stations) out outs_more (first.puts ∙ out_next)).0 [])
            ∙ rw (← here) (are.puts at [] next_within)

        -- the next ends that take are those of the links to its machine
        inn_is : inn ≡ the_inns script lawful links outs inns are at stop m stops fresh
        inn_is = sym ((drop_step inns (length stations) inn inns_more (first.takes ∙ inn_next)).0 [])
            ∙ rw (← here) (are.takes at [] (l script lawful links outs inns are at stop m stops fresh) next_within)

        -- the next station can begin
        pub may_begin : IsBeginning script m out inn
        may_begin = rw (out_is, inn_is) (beginning script lawful links outs inns are at stop m stops fresh)

        -- the station that begins with these ends is the script's new one at its place
        begins : IsNewStation script links at (begun script m out inn)
        begins = rw (out_is, inn_is) (new_station script lawful links outs inns are at stop m stops fresh)

        -- with it they are the first ones
        pub one_more : (s : StationState) (new : List StationState) → s ≡ begun script m out inn →
            new ≡ stations ++ s ∷ [] → AreFirst script links outs inns new more outs_more inns_more
        one_more s new begin is =
            let (_, _, _, rest) =
            rest_step (key_of script) script.machines (length stations) key more (first.rest ∙ next) in
            let count : length new ≡ suc (length stations) =
            ap length is ∙ length-append stations (s ∷ []) ∙ add-one (length stations) in
            record {
              within = let w = next_within in omega (arith, w, count);
              rest = rw count rest;
              puts = rw count (drop_step outs (length stations) out outs_more (first.puts ∙ out_next)).1;
              takes = rw count (drop_step inns (length stations) inn inns_more (first.takes ∙ inn_next)).1;
              each = λ place u stands. elim (push_cases stations s u place (rw is at stands)) [
                | inl t ↦ first.each place u t
                | inr t ↦ rw (t.1, begin, t.0, ← here) begins
              ];
            }

-- before the first
pub first_none : (script : Script) (links : List (List LinkView)) (outs : List Outs) (inns : List Inns)
    (keys : List Secret) → keys ≡ map (key_of script) script.machines →
    AreFirst script links outs inns [] keys outs inns
first_none script links outs inns keys is = record {
  within = omega arith;
  rest = sym is;
  puts = refl;
  takes = refl;
  each = λ at s stands. cc;
}

-- once no key is left they are all
pub all_new : {script : Script} {links : List (List LinkView)} {outs outs_left : List Outs}
    {inns inns_left : List Inns} {stations : List StationState} {keys : List Secret} →
    AreFirst script links outs inns stations keys outs_left inns_left → length keys ≡ 0 →
    length links ≡ length script.machines → AreNewStations script links stations
all_new {keys = key ∷ keys} first none rows = absurd (omega arith)
all_new {script} {stations = stations} {keys = []} first none rows =
    let past = rest_none (key_of script) script.machines (length stations) first.rest in
    let within = first.within in
    record { count = omega arith; rows = omega arith; each = first.each }

-- new stations can be worked: their ends are those of the links, and they have no tick yet
pub all_workable : {script : Script} {links : List (List LinkView)} {stations : List StationState} →
    AreNewStations script links stations →
    (All (λ (s : StationState). IsOfLinks links (made_of s)) stations) ×
    All (λ (s : StationState). s.ticks ≡ []) stations
all_workable {script} {links} {stations} are = (
  λ k d lt. let new = are.each k (get_or stations k d) (slice_get-get_or stations k d lt) in
      subst (IsOfLinks links) (sym new.fresh) new.ends,
  λ k d lt. let new = are.each k (get_or stations k d) (slice_get-get_or stations k d lt) in
      sym (ap (λ (s : StationState). s.ticks) new.fresh),
)
