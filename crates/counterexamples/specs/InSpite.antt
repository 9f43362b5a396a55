-- Why machines heed each cause, and why a rule compares the booth that is named: places that do
-- otherwise, at which a standard rule fails.
use Rattle.std.specs.Prelude.{◌≡◌, ◌⊎◌, ℕ, List, ◌∷◌, ◌++◌, Ok, Err}
use Rattle.entry_format.specs.declared.deed.Deed.{Deed}
use Rattle.entry_format.specs.Deeds.{IsDeedOf}
use Rattle.entry_format.specs.Nodes.{node_of_sealed}
use Rattle.entry_format.specs.SealedEntry.{SealedEntry}
use Rattle.entry_order.specs.declared.event.Event.{Event}
use Rattle.entry_order.specs.declared.event.Event.TheVariants.{Sent}
use Rattle.entry_order.specs.Naming.{Distinct}
use Rattle.entry_order.specs.Receipt.{IsOrderly}
use Rattle.entry_order.specs.World.{World, history, sent_in}
use Rattle.roster.specs.declared.post.Post.{Post}
use Rattle.roster.specs.declared.post.Role.{Role}
use Rattle.roster.specs.Machines.{HaveOneSupervisor}
use Rattle.polling_world.specs.declared.left.LeftWhy.{LeftWhy}
use Rattle.polling_world.specs.Rules.{RoleRefuses}
use Rattle.rule_language.specs.declared.kind.Kind.TheVariants as kind
use Rattle.rule_language.specs.declared.kind.Field.TheVariants as field
use Rattle.rule_language.specs.declared.term.Term.TheVariants.{Of}
use Rattle.rule_language.specs.declared.form.Form.TheVariants as form
use Rattle.rule_language.specs.Trees.{Trees, no_trees, tree_then}
use Rattle.rule_meaning.specs.Meaning.{Holds}
use Rattle.survivor_rows.specs.Rows.{row_of}
use Rattle.honest_places.specs.Honest.{role_at}

-- the rules of the role give no cause against the deed, or this one first
abbrev pub MayInSpiteOf : LeftWhy → Role → ℕ → List (Event SealedEntry) → Deed → Type 0
MayInSpiteOf why role machine past deed =
    RoleRefuses role machine past deed (Ok tt) ⊎ RoleRefuses role machine past deed (Err why)

-- as an honest place, but a machine may act in spite of this cause
pub record IsHonestBut (why : LeftWhy) (posts : List Post) (w : World SealedEntry) : Type 0 where
  pub supervisor : HaveOneSupervisor posts
  pub orderly : IsOrderly node_of_sealed w
  pub allowed : (m : ℕ) (past : List (Event SealedEntry)) (e : SealedEntry) (later : List (Event SealedEntry)) →
      history w m ≡ past ++ Sent e ∷ later →
      IsDeedOf (role_at posts m) e.entry.deed × MayInSpiteOf why (role_at posts m) m past e.entry.deed

-- at some place of this sort, where different entries have different digests, the rule fails of all
-- that was sent
abbrev pub FailsAtSome : (List Post → World SealedEntry → Type 0) → Trees → Type 0
FailsAtSome IsPlace rule =
    (posts : List Post) × (w : World SealedEntry) × IsPlace posts w × Distinct node_of_sealed (sent_in w)
    × (¬ (Holds node_of_sealed (row_of posts) (sent_in w) (sent_in w) rule))

-- every Activate x has an Authorise y of its session before it, as in the rule A1, but it is x
-- whose booth is compared
abbrev pub own_booth : Trees
own_booth =
    tree_then (form.ForEvery 120 kind.Activate)
    (tree_then (form.SomeBefore 121 kind.Authorise 120)
    (tree_then form.And
    (tree_then (form.Equal (Of 121 field.Session) (Of 120 field.Session)) no_trees
    (tree_then (form.Equal (Of 120 field.Booth) (Of 120 field.Maker)) no_trees no_trees))
    no_trees)
    no_trees)
    no_trees
