-- What the machines of a script come to is an honest polling place, whatever its steps.
use Rattle.std.specs.Prelude.{◌≡◌, ℕ, List, Some, slice_get}
use Rattle.entry_format.specs.Nodes.{node_of_sealed}
use Rattle.entry_format.specs.SealedEntry.{SealedEntry}
use Rattle.entry_order.specs.declared.step.Step.{Step}
use Rattle.entry_order.specs.Naming.{Distinct}
use Rattle.entry_order.specs.Receipt.{IsOrderly}
use Rattle.entry_order.specs.World.{World, sent_in}
use Rattle.election_script.specs.declared.script.Script.{Script}
use Rattle.election_script.specs.Lawful.{IsLawful}
use Rattle.polling_world.specs.Configs.{IsOf}
use Rattle.polling_world.specs.Keys.{roster_of}
use Rattle.polling_world.specs.Machines.{MachineState}
use Rattle.polling_world.specs.Playing.{ComesTo}
use Rattle.polling_world.specs.Sending.{AreMade}
use Rattle.polling_world.specs.Worlds.{world_of}
use Rattle.rule_exactness.specs.Exact.{NoEarlyEnd}
use Rattle.survivor_rows.specs.Rows.{row_of}
use Rattle.honest_places.specs.Honest.{IsHonest}
use Rattle.honest_places.specs.RulesKept.{WereSentIn, AreAllOf, StandardRulesHold, NoneIsBroken, NoneIsTooWide}
use Rattle.honest_places.specs.RulesKept.{EachIsKept}

-- a lawful script, of either version, leads by any steps to a place that is honest under the
-- script's roster
abbrev pub ScriptsLeadToHonestPlaces : Type 0
ScriptsLeadToHonestPlaces =
    (script : Script) (steps : List Step) (w : World SealedEntry) → IsLawful script → ComesTo script steps w →
    IsHonest (roster_of script) w

-- the machines are those of the script, each at its place, whatever stopped it; each could send
-- what it sent when it did, and together they are orderly
pub record AreOrderlyMachinesOf (script : Script) (machines : List MachineState) : Type 0 where
  pub number : (place : ℕ) (m : MachineState) → slice_get machines place ≡ Some m → m.config.number ≡ place
  pub config : (place : ℕ) (m : MachineState) → slice_get machines place ≡ Some m → IsOf script m.config
  pub made : (place : ℕ) (m : MachineState) → slice_get machines place ≡ Some m → AreMade m.config m.events
  pub orderly : IsOrderly node_of_sealed (world_of machines)

-- orderly machines of a lawful script are an honest place, whatever stopped them; this needs no
-- list of steps
abbrev pub MachinesAreHonest : Type 0
MachinesAreHonest =
    (script : Script) (machines : List MachineState) → IsLawful script → AreOrderlyMachinesOf script machines →
    IsHonest (roster_of script) (world_of machines)

-- of any entries that a script's machines sent by any steps each standard rule holds
abbrev pub ScriptsKeepTheRules : Type 0
ScriptsKeepTheRules =
    (script : Script) (steps : List Step) (w : World SealedEntry) → IsLawful script → ComesTo script steps w →
    Distinct node_of_sealed (sent_in w) →
    (S : List SealedEntry) → WereSentIn w S → StandardRulesHold (roster_of script) w S

-- no standard rule is known to be broken, whichever entries of a script's machines are given
abbrev pub ScriptsAreNeverBroken : Type 0
ScriptsAreNeverBroken =
    (script : Script) (steps : List Step) (w : World SealedEntry) → IsLawful script → ComesTo script steps w →
    Distinct node_of_sealed (sent_in w) →
    (S : List SealedEntry) → WereSentIn w S → NoneIsBroken (roster_of script) S

-- each standard rule is known to be kept where all entries that a script's machines sent are given
abbrev pub ScriptsAreKept : Type 0
ScriptsAreKept =
    (script : Script) (steps : List Step) (w : World SealedEntry) → IsLawful script → ComesTo script steps w →
    Distinct node_of_sealed (sent_in w) →
    (S : List SealedEntry) → WereSentIn w S → AreAllOf w S → EachIsKept (roster_of script) S

-- of any entries that a script's machines sent, by any steps, none that ends a session precedes an
-- authorising of it
abbrev pub ScriptsHaveNoEarlyEnd : Type 0
ScriptsHaveNoEarlyEnd =
    (script : Script) (steps : List Step) (w : World SealedEntry) → IsLawful script → ComesTo script steps w →
    Distinct node_of_sealed (sent_in w) →
    (S : List SealedEntry) → WereSentIn w S → NoEarlyEnd node_of_sealed (row_of (roster_of script)) S

-- over no entries that a script's machines sent, by any steps, a standard rule is too wide
abbrev pub ScriptsAreNeverTooWide : Type 0
ScriptsAreNeverTooWide =
    (script : Script) (steps : List Step) (w : World SealedEntry) → IsLawful script → ComesTo script steps w →
    Distinct node_of_sealed (sent_in w) →
    (S : List SealedEntry) → WereSentIn w S → NoneIsTooWide (roster_of script) S
