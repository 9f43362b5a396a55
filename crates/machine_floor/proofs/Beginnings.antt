-- A station before anything happened is one.
use Rattle.machine_floor.proofs.Hands.{some_of}
use Rattle.machine_floor.proofs.Imports.{[], All, ap, AreNewLinks, arith, arriving, begun, Contains, Contains-none}
use Rattle.machine_floor.proofs.Imports.{Event, get_or, get_or-map, get_or_default, Got, got_from, in_of, InView}
use Rattle.machine_floor.proofs.Imports.{IsBeginning, IsFresh, IsLawful, IsMachine, IsNewStation, IsOfLinks, IsStation}
use Rattle.machine_floor.proofs.Imports.{IsStopOf, IsTakenWell, length, length-map, link_at, LinkView, List}
use Rattle.machine_floor.proofs.Imports.{lose_lines_of, MachineState, map, new_in, new_out, node_of_sealed, Option}
use Rattle.machine_floor.proofs.Imports.{out_of, OutView, refl, Script, SealedEntry, sent, slice_get_within}
use Rattle.machine_floor.proofs.Imports.{StationState, subst, sym, ticks_from, ℕ, ◌<◌, ◌∙◌, ◌∷◌, ◌≡◌}

module _ (script : Script) (m : MachineState) (outs : List (OutView SealedEntry)) (inns : List (InView SealedEntry))
    (is : IsBeginning script m outs inns) (kept : IsMachine m) where
  -- nothing was sent yet
  none_sent : sent m.events ≡ []
  none_sent = ap sent is.events

  -- where nothing was taken, all holds that is asked of entries that were taken
  nothing_well : (from : ℕ) (taken : List SealedEntry) → taken ≡ [] → IsTakenWell from taken
  nothing_well from taken e = rw e (record {
    makers = λ k d lt. absurd (omega arith);
    small = λ k d lt. absurd (omega arith);
    dense = λ k d lt. absurd (omega arith);
  })

  -- what is true of every station is true of one that begins
  pub IsStation-begun : IsStation (begun script m outs inns)
  IsStation-begun = record {
    machine = kept;
    going = is.going;
    small = omega (arith, is.log, is.small);
    place = is.place;
    few = is.few;
    as_many = is.as_many;
    puts = λ to d lt differs. is.put to d lt ∙ sym (ap (arriving node_of_sealed [] m.config.number to) none_sent);
    heard = λ from d lt differs. ap (got_from node_of_sealed from) is.events
        ∙ sym (ap (arriving node_of_sealed [] from m.config.number) (is.taken from d lt));
    taken = λ from d lt. nothing_well from (get_or inns from d).taken (is.taken from d lt);
    makers = λ e c. absurd
        (Contains-none (Got e) (subst (λ (h : List (Event SealedEntry)). Contains h (Got e)) is.events c));
    fits = λ k d lt. absurd (omega arith);
    once = λ i j d lt within. absurd (omega arith);
    scripted = λ n to below within apart named. absurd (omega (arith, ap length none_sent));
    ticks = sym (ap (ticks_from 0) is.events);
    few_losses = omega arith;
  }

-- new ends are as they were made
outs_new : (row : List LinkView) → map new_out (map out_of row) ≡ map out_of row
outs_new [] = refl
outs_new (l ∷ row) = ap (λ o. out_of l ∷ o) (outs_new row)

-- and so are those that take
inns_new : (links : List (List LinkView)) (at : ℕ) (l : LinkView) →
    map new_in (map (λ row. in_of (get_or row at l)) links) ≡ map (λ row. in_of (get_or row at l)) links
inns_new [] at l = refl
inns_new (row ∷ links) at l = ap (λ i. in_of (get_or row at l) ∷ i) (inns_new links at l)

-- at the ends made of a row of links nothing was put
none_put : (row : List LinkView) → All (λ (out : OutView SealedEntry). out.put ≡ []) (map out_of row)
none_put row k d lt =
    ap (λ (o : OutView SealedEntry). o.put)
    (get_or-map out_of row k (record { queue = d.queue; from = 0; capacity = 0 }) d
    (omega (arith, length-map row out_of)))

-- and at those made of the links to one machine nothing was taken
none_taken : (links : List (List LinkView)) (at : ℕ) (l : LinkView) →
    All (λ (inn : InView SealedEntry). inn.taken ≡ []) (map (λ row. in_of (get_or row at l)) links)
none_taken links at l k d lt =
    ap (λ (i : InView SealedEntry). i.taken)
    (get_or-map (λ (row : List LinkView). in_of (get_or row at l)) links k [] d
    (omega (arith, length-map links (λ (row : List LinkView). in_of (get_or row at l)))))

module _ (script : Script) (lawful : IsLawful script) (links : List (List LinkView))
    (outs : List (List (OutView SealedEntry))) (inns : List (List (InView SealedEntry)))
    (are : AreNewLinks (length script.machines) script.link links outs inns) (at : ℕ) (stop : Option ℕ)
    (m : MachineState)
    (stops : IsStopOf script.stops at stop) (fresh : IsFresh script at stop m) where
  -- the place is that of one of the script's machines
  pub inside : at < length script.machines
  inside = slice_get_within script.machines at fresh.0 fresh.1

  -- one of them, as what a read gives where there is none
  pub l : LinkView
  l = some_of (get_or links at []) at (let s = are.square at inside in let k = inside in omega arith)

  -- the ends that put of the links from it
  abbrev pub the_outs : List (OutView SealedEntry)
  the_outs = map out_of (get_or links at [])

  -- the ends that take of the links to it
  abbrev pub the_inns : List (InView SealedEntry)
  the_inns = map (λ row. in_of (get_or row at l)) links

  -- there is an end that puts for each machine of the script
  outs_count : length the_outs ≡ length script.machines
  outs_count = length-map (get_or links at []) out_of ∙ are.square at inside

  -- and one that takes
  inns_count : length the_inns ≡ length script.machines
  inns_count = length-map links (λ (row : List LinkView). in_of (get_or row at l)) ∙ are.rows

  -- the machine's number is its place
  number : m.config.number ≡ at
  number = ap (λ (x : MachineState). x.config.number) fresh.2

  -- nothing happened to the machine, and these ends lead to and from each machine, with nothing put
  -- or taken
  pub beginning : IsBeginning script m the_outs the_inns
  beginning = let (_, _, is) = fresh in record {
    log = ap (λ (x : MachineState). x.config.log) is;
    small = lawful.log.1;
    events = ap (λ (x : MachineState). x.events) is;
    going = ap (λ (x : MachineState). x.marked) is;
    place = (let k = inside in let n = number in let c = outs_count in omega arith);
    few = (let k = lawful.machines.few.1 in let c = outs_count in omega arith);
    as_many = inns_count ∙ sym outs_count;
    put = none_put (get_or links at []);
    taken = none_taken links at l;
  }

  -- the machine's station with these ends
  abbrev pub the_station : StationState
  the_station = begun script m the_outs the_inns

  -- its ends are those of the links
  ends : IsOfLinks links the_station
  ends = record {
    square = λ from lt. are.square from (omega (arith, outs_count)) ∙ sym outs_count;
    rows = are.rows ∙ sym outs_count;
    from = λ from to k lf lt. (are.carry from (omega (arith, outs_count)) to k
        (let s = are.square from (let c = outs_count in omega arith) in let c = outs_count in omega arith)).0;
    outs = λ to k d lt.
        let there : to < length (get_or links at []) =
        (let s = are.square at inside in let c = outs_count in omega arith) in
        let is : get_or the_outs to d ≡ out_of (get_or (get_or links at []) to k) =
        get_or-map out_of (get_or links at []) to k d there in
        let P : ℕ → OutView SealedEntry → Type 0 = λ n o. (o.queue ≡ (link_at links n to k).queue)
        × (o.from ≡ (link_at links n to k).from) in
        subst (λ n. P n (get_or the_outs to d)) (sym number) (subst (P at) (sym is) (refl, refl));
    capacity = λ to k lt. (are.carry m.config.number (let i = inside in let n = number in omega arith) to k
        (let s = are.square m.config.number (let i = inside in let n = number in omega arith) in
        let c = outs_count in omega arith)).1;
    inns = λ from k d lt.
        let there : from < length links = (let c = inns_count in let r = are.rows in omega arith) in
        let is : get_or the_inns from d ≡ in_of (get_or (get_or links from []) at l) =
        get_or-map (λ (row : List LinkView). in_of (get_or row at l)) links from [] d there in
        let wide : at < length (get_or links from []) =
        (let s = are.square from (let r = are.rows in omega arith) in let i = inside in omega arith) in
        let same : get_or (get_or links from []) at l ≡ get_or (get_or links from []) at k =
        get_or_default (get_or links from []) at l k wide in
        let P : ℕ → InView SealedEntry → Type 0 = λ n i. (i.queue ≡ (link_at links from n k).queue)
        × (i.from ≡ (link_at links from n k).from) in
        subst (λ n. P n (get_or the_inns from d)) (sym number)
        (subst (P at) (sym (is ∙ ap in_of same)) (refl, refl));
  }

  -- the machine has no events that its brand would leave out
  unmade : m ≡ record m { events = [] }
  unmade = ap (λ (h : List (Event SealedEntry)). record m { events = h }) beginning.events

  -- it is the script's new station at this place
  pub new_station : IsNewStation script links at the_station
  new_station = record {
    stop = stop;
    stops = stops;
    machine = fresh;
    link = refl;
    loses = ap (λ n. lose_lines_of n script.loses) number;
    ends = ends;
    fresh = (let none = unmade in let puts = outs_new (get_or links at []) in let takes = inns_new links at l in cc);
  }
