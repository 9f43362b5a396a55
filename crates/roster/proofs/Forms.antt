-- Which fault a text has.
use Rattle.roster.proofs.Imports.{ap, BadName, Fits, HasForm, IsFault, IsMachinesFault, IsRosterText, IsRosterTree}
use Rattle.roster.proofs.Imports.{List, map, Memory, NotCanonical, NotOneSupervisor, Post, post_tree, roster_tree}
use Rattle.roster.proofs.Imports.{RosterFault, same_text, SameName, Sexp, subst, sym, text_of, TooManyMachines}
use Rattle.roster.proofs.{Imports.WrongShape, Imports.ℕ, Imports.◌∙◌, Imports.◌≡◌, Trees.one_list, Trees.same_after}

-- a text has one tree
pub one_text : (text : List ℕ) (tree other : Sexp) → Fits tree → Fits other → text ≡ text_of tree →
    text ≡ text_of other → tree ≡ other
one_text text tree other fits other_fits is also = same_text tree other fits other_fits (sym is ∙ also)

-- a text whose tree isn't that of machines has no form of a roster's
pub no_machines : (text : List ℕ) (tree : Sexp) → Fits tree → text ≡ text_of tree →
    ((machines : List Post) → ¬ (IsRosterTree tree machines)) → ¬ (HasForm text)
no_machines text tree fits is none (machines, form) =
    none machines
    (record { keys = form.keys; is = one_text text tree (roster_tree machines) fits form.within is form.spelt })

-- the form of a text whose machines were found
pub form_of : (text : List ℕ) (tree : Sexp) (machines : List Post) → Fits tree → text ≡ text_of tree →
    IsRosterTree tree machines → IsRosterText text machines
form_of text tree machines fits is found =
    record {
      keys = found.keys;
      within = subst (λ t. Fits t) found.is fits;
      spelt = is ∙ ap text_of found.is;
    }

-- a fault of the machines is one of the text
pub fault_of_text : (text : List ℕ) (machines : List Post) (fault : RosterFault) → IsRosterText text machines →
    IsMachinesFault machines fault → IsFault text fault
fault_of_text text machines (NotCanonical at) form never = absurd never
fault_of_text text machines WrongShape form never = absurd never
fault_of_text text machines TooManyMachines form is = (machines, form, is)
fault_of_text text machines BadName form is = (machines, form, is)
fault_of_text text machines SameName form is = (machines, form, is)
fault_of_text text machines NotOneSupervisor form is = (machines, form, is)
fault_of_text text machines Memory form never = absurd never

-- a text is that of one list of machines
pub one_roster : (text : List ℕ) (machines others : List Post) → IsRosterText text machines →
    IsRosterText text others → machines ≡ others
one_roster text machines others is also =
    one_list machines others (same_after (map post_tree machines) (map post_tree others)
    (one_text text (roster_tree machines) (roster_tree others) is.within also.within is.spelt also.spelt))
