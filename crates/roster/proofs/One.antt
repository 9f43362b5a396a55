-- Of the answers to a text, at most one is right.
use Rattle.roster.proofs.Imports.{◌≡◌, ℕ, List, Ok, Err, Result, ap, refl, subst, IsCanonical, StopsAt, stops_nowhere}
use Rattle.roster.proofs.Imports.{one_stop, Post, Roster, RosterFault, NotCanonical, WrongShape, TooManyMachines}
use Rattle.roster.proofs.Imports.{BadName, SameName, NotOneSupervisor, Memory, IsRosterText, roster_tree, AreRoster}
use Rattle.roster.proofs.Imports.{HasForm, IsMachinesFault, IsFault, Reads}
use Rattle.roster.proofs.Forms.{one_roster}

-- a text of machines is one canonical text, so it stops being one nowhere
never_stops : (text : List ℕ) (machines : List Post) (at : ℕ) → IsRosterText text machines → StopsAt text at → ⊥
never_stops text machines at form = stops_nowhere text at (roster_tree machines, form.within, form.spelt)

-- machines have one fault
one_machines_fault : (machines : List Post) (fault other : RosterFault) → IsMachinesFault machines fault →
    IsMachinesFault machines other → fault ≡ other
one_machines_fault machines (NotCanonical at) other is also = absurd is
one_machines_fault machines WrongShape other is also = absurd is
one_machines_fault machines Memory other is also = absurd is
one_machines_fault machines fault (NotCanonical at) is also = absurd also
one_machines_fault machines fault WrongShape is also = absurd also
one_machines_fault machines fault Memory is also = absurd also
one_machines_fault machines TooManyMachines TooManyMachines is also = refl
one_machines_fault machines TooManyMachines BadName many (few, _) = absurd (many few)
one_machines_fault machines TooManyMachines SameName many (few, _, _) = absurd (many few)
one_machines_fault machines TooManyMachines NotOneSupervisor many (few, _, _, _) = absurd (many few)
one_machines_fault machines BadName TooManyMachines (few, _) many = absurd (many few)
one_machines_fault machines BadName BadName is also = refl
one_machines_fault machines BadName SameName (_, unnamed) (_, named, _) = absurd (unnamed named)
one_machines_fault machines BadName NotOneSupervisor (_, unnamed) (_, named, _, _) = absurd (unnamed named)
one_machines_fault machines SameName TooManyMachines (few, _, _) many = absurd (many few)
one_machines_fault machines SameName BadName (_, named, _) (_, unnamed) = absurd (unnamed named)
one_machines_fault machines SameName SameName is also = refl
one_machines_fault machines SameName NotOneSupervisor (_, _, same) (_, _, distinct, _) = absurd (same distinct)
one_machines_fault machines NotOneSupervisor TooManyMachines (few, _, _, _) many = absurd (many few)
one_machines_fault machines NotOneSupervisor BadName (_, named, _, _) (_, unnamed) = absurd (unnamed named)
one_machines_fault machines NotOneSupervisor SameName (_, _, distinct, _) (_, _, same) = absurd (same distinct)
one_machines_fault machines NotOneSupervisor NotOneSupervisor is also = refl

-- a roster has none
no_fault : (machines : List Post) (fault : RosterFault) → AreRoster machines → IsMachinesFault machines fault → ⊥
no_fault machines (NotCanonical at) good is = is
no_fault machines WrongShape good is = is
no_fault machines TooManyMachines good many = many good.few
no_fault machines BadName good (_, unnamed) = unnamed good.named
no_fault machines SameName good (_, _, same) = same good.distinct
no_fault machines NotOneSupervisor good (_, _, _, not_one) = not_one good.supervisor
no_fault machines Memory good is = is

-- a fault of a text that has the form of a roster's is one of its machines
of_machines : (text : List ℕ) (machines : List Post) (fault : RosterFault) → IsRosterText text machines →
    IsFault text fault → IsMachinesFault machines fault
of_machines text machines (NotCanonical at) form stops = absurd (never_stops text machines at form stops)
of_machines text machines WrongShape form (_, none) = absurd (none (machines, form))
of_machines text machines TooManyMachines form (others, same, is) =
    subst (λ posts. IsMachinesFault posts TooManyMachines) (one_roster text others machines same form) is
of_machines text machines BadName form (others, same, is) =
    subst (λ posts. IsMachinesFault posts BadName) (one_roster text others machines same form) is
of_machines text machines SameName form (others, same, is) =
    subst (λ posts. IsMachinesFault posts SameName) (one_roster text others machines same form) is
of_machines text machines NotOneSupervisor form (others, same, is) =
    subst (λ posts. IsMachinesFault posts NotOneSupervisor) (one_roster text others machines same form) is
of_machines text machines Memory form (others, same, is) = absurd is

-- a text that isn't one canonical text has that fault alone
only_not_canonical : (text : List ℕ) (at : ℕ) (fault : RosterFault) → StopsAt text at → IsFault text fault →
    NotCanonical at ≡ fault
only_not_canonical text at (NotCanonical other) stops is = ap NotCanonical (one_stop text at other stops is)
only_not_canonical text at WrongShape stops (whole, _) = absurd (stops_nowhere text at whole stops)
only_not_canonical text at TooManyMachines stops (machines, form, _) = absurd (never_stops text machines at form stops)
only_not_canonical text at BadName stops (machines, form, _) = absurd (never_stops text machines at form stops)
only_not_canonical text at SameName stops (machines, form, _) = absurd (never_stops text machines at form stops)
only_not_canonical text at NotOneSupervisor stops (machines, form, _) = absurd (never_stops text machines at form stops)
only_not_canonical text at Memory stops (_, _, never) = absurd never

-- a canonical text that doesn't have the form of a roster's has that fault alone
only_wrong_shape : (text : List ℕ) (fault : RosterFault) → IsCanonical text → (HasForm text → ⊥) →
    IsFault text fault → WrongShape ≡ fault
only_wrong_shape text (NotCanonical at) whole none is = absurd (stops_nowhere text at whole is)
only_wrong_shape text WrongShape whole none is = refl
only_wrong_shape text TooManyMachines whole none (machines, form, _) = absurd (none (machines, form))
only_wrong_shape text BadName whole none (machines, form, _) = absurd (none (machines, form))
only_wrong_shape text SameName whole none (machines, form, _) = absurd (none (machines, form))
only_wrong_shape text NotOneSupervisor whole none (machines, form, _) = absurd (none (machines, form))
only_wrong_shape text Memory whole none (_, _, never) = absurd never

-- a text has one fault
one_fault : (text : List ℕ) (fault other : RosterFault) → IsFault text fault → IsFault text other → fault ≡ other
one_fault text (NotCanonical at) other is also = only_not_canonical text at other is also
one_fault text WrongShape other (whole, none) also = only_wrong_shape text other whole none also
one_fault text TooManyMachines other (machines, form, is) also =
    one_machines_fault machines TooManyMachines other is (of_machines text machines other form also)
one_fault text BadName other (machines, form, is) also =
    one_machines_fault machines BadName other is (of_machines text machines other form also)
one_fault text SameName other (machines, form, is) also =
    one_machines_fault machines SameName other is (of_machines text machines other form also)
one_fault text NotOneSupervisor other (machines, form, is) also =
    one_machines_fault machines NotOneSupervisor other is (of_machines text machines other form also)
one_fault text Memory other (_, _, never) also = absurd never

-- a text has one right answer
pub one_reading : (text : List ℕ) (answer other : Result Roster RosterFault) → Reads text answer → Reads text other →
    answer ≡ other
one_reading text (Ok roster) (Ok other) (form, _) (form', _) =
    ap (λ (machines : List Post). Ok (record { machines = machines }))
    (one_roster text roster.machines other.machines form form')
one_reading text (Ok roster) (Err fault) (form, good) is =
    absurd (no_fault roster.machines fault good (of_machines text roster.machines fault form is))
one_reading text (Err fault) (Ok roster) is (form, good) =
    absurd (no_fault roster.machines fault good (of_machines text roster.machines fault form is))
one_reading text (Err fault) (Err other) is also = ap Err (one_fault text fault other is also)
