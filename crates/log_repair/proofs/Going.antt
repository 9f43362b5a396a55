-- Steps that are taken and added to a list, until the whole way is gone.
use Rattle.log_repair.proofs.Imports.{[], Adds, ap, append-nil, append_assoc, arith, Bool, Completes, Err, Fails, false}
use Rattle.log_repair.proofs.Imports.{Going, happens, if◌then◌else◌, InOrder, IsMadeAsBefore, LeadsTo, length}
use Rattle.log_repair.proofs.Imports.{length-append, List, MachineState, NextEntry, node_of_sealed, Ok, OnErr, refl}
use Rattle.log_repair.proofs.Imports.{Result, Says, SealedEntry, spare, Stays, Step, true, true≢false, World, world_of}
use Rattle.log_repair.proofs.Imports.{WorldState, WorldWay, ℕ, ◌*◌, ◌++◌, ◌+◌, ◌<◌, ◌↔◌, ◌∙◌, ◌∷◌, ◌≡◌}
use Rattle.log_repair.proofs.{Making.same_log, OneWay.AnyStep, OneWay.Continues, OneWay.goes_further, OneWay.IsSure}
use Rattle.log_repair.proofs.{OneWay.Loops, OneWay.LoopsWhile, Plays.play-append}

-- from any world the way leads on, for whatever function says what these machines may send
abbrev pub GoesOn : WorldWay → List MachineState → Type 0
GoesOn Way machines =
    (next : NextEntry) (log : ℕ) → Says machines next log →
    (u : World SealedEntry) → Continues (Way (happens node_of_sealed next log)) u

-- from here these steps of one way, and then the next way, are a third
abbrev pub Joins : WorldState → WorldWay → WorldWay → WorldWay → List Step → Type 0
Joins b First Next Both first =
    (after : World SealedEntry → Step → World SealedEntry) (mid new : World SealedEntry) (rest : List Step) →
    First after (world_of b.machines) first mid → Next after mid rest new →
    Both after (world_of b.machines) (first ++ rest) new

-- what the function says stays so, and so does what the machines are made of
says_on : {a b : WorldState} {next : NextEntry} {log : ℕ} → IsMadeAsBefore a b → Says a.machines next log →
    Says b.machines next log
says_on {a = a} {b = b} made says = record {
  tells = rw made.configs says.tells;
  have = same_log _ a.machines b.machines made.configs says.have;
}

made_on : {a b c : WorldState} → IsMadeAsBefore a b → IsMadeAsBefore b c → IsMadeAsBefore a c
made_on one two = record {
  roster = two.roster ∙ one.roster;
  configs = two.configs ∙ one.configs;
  stops = two.stops ∙ one.stops;
}

-- nothing is done yet
pub going_start : {Rest Whole : WorldWay} {w : WorldState} {start : List Step} →
    Completes Rest Whole w.machines [] w.machines → Going Rest Whole w start start w
going_start so = record {
  made = record { roster = refl; configs = refl; stops = refl };
  taken = [];
  added = rw append-nil;
  spared = omega arith;
  played = λ next log says. refl;
  leads = so;
}

-- all of it is left
pub going_none : {Way : WorldWay} {w : WorldState} {start : List Step} → Going Way Way w start start w
going_none = going_start (λ next log says rest last way. way)

-- one part of it is done
pub going_more : {First Next Rest Whole : WorldWay} {a b c : WorldState} {start middle end : List Step} →
    Going Rest Whole a start middle b → (two : Going Stays First b middle end c) → Joins b First Next Rest two.taken →
    Going Next Whole a start end c
going_more {a = a} {c = c} {start = start} one two joins = record {
  made = made_on one.made two.made;
  taken = one.taken ++ two.taken;
  added = cc (two.added, one.added, append_assoc start one.taken two.taken);
  spared = omega (arith, one.spared, two.spared, length-append one.taken two.taken);
  played = λ next log says. cc (
    two.played next log (says_on one.made says),
    one.played next log says,
    play-append node_of_sealed next log (world_of a.machines) one.taken two.taken,
  );
  leads = λ next log says rest last way.
      let part = two.leads next log (says_on one.made says) [] (world_of c.machines) (refl, refl) in
      rw (append_assoc one.taken two.taken rest)
      (one.leads next log says (two.taken ++ rest) last (joins (happens node_of_sealed next log)
      (world_of c.machines) last rest (rw (append-nil two.taken) at part) way));
}

-- one part of it broke off
pub going_fails : {First Next Rest Whole : WorldWay} {a b c : WorldState} {start middle : List Step} →
    Going Rest Whole a start middle b → Fails First b c → ((first : List Step) → Joins b First Next Rest first) →
    GoesOn Next a.machines → Fails Whole a c
going_fails {a = a} one two joins goes = record {
  made = made_on one.made two.made;
  broken = λ next log tells have.
      let says : Says a.machines next log = record { tells = tells; have = have } in
      let here = says_on one.made says in
      let (done, later, mid, way, is) = two.broken next log here.tells here.have in
      let (rest, last, others) = goes next log says mid in
      let whole = one.leads next log says ((done ++ later) ++ rest) last
      (joins (done ++ later) (happens node_of_sealed next log) mid last rest way others) in (
        one.taken ++ done,
        later ++ rest,
        last,
        rw (append_assoc one.taken done (later ++ rest), ← append_assoc done later rest) whole,
        cc (
          is,
          one.played next log says,
          play-append node_of_sealed next log (world_of a.machines) one.taken done,
        ),
      );
}

-- no more of it was done
pub fails_here : {Rest Whole : WorldWay} {a b : WorldState} {start end : List Step} → Going Rest Whole a start end b →
    GoesOn Rest a.machines → Fails Whole a b
fails_here {a = a} {b = b} one goes = record {
  made = one.made;
  broken = λ next log tells have.
      let says : Says a.machines next log = record { tells = tells; have = have } in
      let (steps, last, way) = goes next log says (world_of b.machines) in
      (one.taken, steps, last, one.leads next log says steps last way, one.played next log says);
}

-- a way after which nothing is left
then_none : (Way : WorldWay) (b : WorldState) (first : List Step) → Joins b Way Stays Way first
then_none Way b first after mid new rest way (bare, same) = rw (bare, same, append-nil) way

-- all of a way that completes another is done, or broke off
pub adds_so : {Rest Whole : WorldWay} {a b : WorldState} {start end : List Step} →
    Completes Rest Whole a.machines [] a.machines → Adds Rest a start end b → Adds Whole a start end b
adds_so {Rest = Rest} {a = a} so adds = going_more {Rest = Rest} (going_start so) adds (then_none Rest a adds.taken)

pub fails_so : {Rest Whole : WorldWay} {a b : WorldState} → Completes Rest Whole a.machines [] a.machines →
    Fails Rest a b → Fails Whole a b
fails_so {Rest = Rest} {a = a} so fails =
    going_fails {Rest = Rest} (going_start {start = []} so) fails (then_none Rest a)
    (λ next log says u. ([], u, (refl, refl)))

-- the first of some things, and then the rest
pub next_joins : {X : Type 0} (b : WorldState)
    (Way : (World SealedEntry → Step → World SealedEntry) → X → World SealedEntry → List Step → World SealedEntry →
    Type 0)
    (x : X) (xs ys : List X) → xs ≡ x ∷ ys → (first : List Step) →
    Joins b (λ after. Way after x) (λ after. InOrder (Way after) ys) (λ after. InOrder (Way after) xs) first
next_joins b Way x xs ys is first after mid new rest one others = rw is (mid, first, rest, one, others, refl)

-- what was added to no steps led there
pub led_from_none : {Way : WorldWay} {a b : WorldState} {steps : List Step} → Adds Way a [] steps b →
    LeadsTo Way a.machines steps b.machines
led_from_none {b = b} adds = λ next log tells have.
    rw (adds.added, ← append-nil adds.taken)
    (adds.leads next log (record { tells = tells; have = have }) [] (world_of b.machines) (refl, refl))

-- what is so is so where there is an error
pub if_failed : {A E P : Type 0} (result : Result A E) → P → OnErr result P
if_failed (Ok done) is = tt
if_failed (Err why) is = is

-- where steps were added there is less room
pub shrinks : {Way : WorldWay} {a b : WorldState} {start end : List Step} → Adds Way a start end b → (moves : Bool) →
    (moves ≡ false) ↔ (end ≡ start) → 2 * spare b.machines + (if moves then 1 else 0) < 2 * spare a.machines + 1
shrinks adds false still = omega (arith, adds.spared)
shrinks {start = start} adds true still = omega (arith, adds.spared, some adds.taken refl)
  where
    some : (t : List Step) → adds.taken ≡ t → 0 < length adds.taken
    some [] none = absurd (true≢false (still.1 (cc (adds.added, none, append-nil start))))
    some (s ∷ t) more = omega (arith, ap length more)

-- ---- again and again

-- where the list stayed nothing was added
none_added : (start end taken : List Step) → end ≡ start ++ taken → end ≡ start → taken ≡ []
none_added start end [] added same = refl
none_added start end (s ∷ taken) added same =
    absurd (omega (arith, ap length added, ap length same, length-append start (s ∷ taken)))

module _ (Way : WorldWay)
    (each : (after : World SealedEntry → Step → World SealedEntry) → IsSure after AnyStep (Way after)) where
  -- once more, and then on if that moved something
  pub loop_more : {Whole : WorldWay} {a b c : WorldState} {start middle end : List Step} →
      Going (λ after. Loops (Way after)) Whole a start middle b → Adds Way b middle end c → (moves : Bool) →
      (moves ≡ false) ↔ (end ≡ middle) → Going (λ after. LoopsWhile moves (Way after)) Whole a start end c
  loop_more {b = b} {middle = middle} {end = end} one two moves still =
      going_more one two (λ after mid new rest. goes_further after AnyStep (Way after) (each after) moves two.taken
      (λ none. none_added middle end two.taken two.added (still.0 none)) (world_of b.machines) mid new rest)

  -- it broke off
  pub loop_fails : {Whole : WorldWay} {a b c : WorldState} {start middle : List Step} →
      Going (λ after. Loops (Way after)) Whole a start middle b → Fails Way b c →
      GoesOn (λ after. Loops (Way after)) a.machines → Fails Whole a c
  loop_fails {b = b} one two =
      going_fails one two (λ first after mid new rest. goes_further after AnyStep (Way after) (each after) true first
      (λ none. absurd (true≢false none)) (world_of b.machines) mid new rest)
