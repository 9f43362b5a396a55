-- Files that begin with that of a roster and, where rules are in a file, that of the rules.
use Rattle.log_commands.proofs.Imports.{[], Err, files_read, FileThen, GivesRoster, GivesRules, in_file, inl, inr, List}
use Rattle.log_commands.proofs.Imports.{None, Ok, one_rules, Ones, Option, refl, Refusal, Result, RosterRead}
use Rattle.log_commands.proofs.Imports.{RuleSource, RulesThen, RuleTree, standard, standard_rules, subst, sym, ℕ, ◌∙◌}
use Rattle.log_commands.proofs.Imports.{◌∷◌, ◌≡◌, ◌⊎◌}

-- two that are found are one where the answers are
pub same_found : {A : Type 0} {a b : A} → ◌≡◌ {A = Result A Refusal} (Ok a) (Ok b) → a ≡ b
same_found e = cc

-- where steps find something, the first finds what the next goes on with
pub found_then : {A B : Type 0} {P Q : A → Type 0} {R : Refusal → Type 0} {b : B} →
    ((a : A) × P a × Q a) ⊎ ((r : Refusal) × R r × (◌≡◌ {A = Result B Refusal} (Ok b) (Err r))) → (a : A) × P a × Q a
found_then (inl found) = found
found_then (inr (r, bad, e)) = cc

-- the rules are the standard ones, or those of this file
abbrev pub AreRules : RuleSource → Option (List ℕ) → List RuleTree → Type 0
AreRules standard file rules = standard_rules ≡ rules
AreRules (in_file name) file rules = GivesRules name file (Ok rules)

-- the files of a roster and of rules give these
pub record Begun (roster : List ℕ) (source : RuleSource) (first second : Option (List ℕ)) : Type 0 where
  pub read : RosterRead
  pub rules : List RuleTree
  pub given : GivesRoster roster first (Ok read)
  pub are : AreRules source second rules

-- they give one roster and one list of rules
pub one_begun : Ones → (roster : List ℕ) (source : RuleSource) (first second : Option (List ℕ))
    (b c : Begun roster source first second) → (b.read ≡ c.read) × (b.rules ≡ c.rules)
one_begun ones roster source first second b c =
    (same_found (ones.rosters roster first (Ok b.read) (Ok c.read) b.given c.given), by source b.are c.are)
  where
    -- by where the rules come from
    by : (from : RuleSource) → AreRules from second b.rules → AreRules from second c.rules → b.rules ≡ c.rules
    by standard x y = sym x ∙ y
    by (in_file name) x y =
        same_found (one_rules ones.readings name second (Ok b.rules) (Ok c.rules) x y)

module _ {B : Type 0} (Next : RosterRead → List RuleTree → List (Option (List ℕ)) → Result B Refusal → Type 0)
    (roster : List ℕ) where
  -- what files give by what comes after the roster and the rules
  abbrev pub Whole : RuleSource → List (Option (List ℕ)) → Result B Refusal → Type 0
  Whole source = FileThen (GivesRoster roster) (λ read. RulesThen source (Next read))

  module _ (first second : Option (List ℕ)) (rest : List (Option (List ℕ))) where
    -- where something is found, the files give a roster and rules, and the others what is found
    pub begun_by : (source : RuleSource) (found : B) → Whole source (files_read first source second rest) (Ok found) →
        (b : Begun roster source first second) × Next b.read b.rules rest (Ok found)
    begun_by standard found gives =
        let (read, given, next) = found_then gives in
        (record { read = read; rules = standard_rules; given = given; are = refl }, next)
    begun_by (in_file name) found gives =
        let (read, given, by_rules) = found_then gives in
        let (rules, are, next) = found_then by_rules in
        (record { read = read; rules = rules; given = given; are = are }, next)

    -- and what the others give by these, all give
    pub whole_by : (source : RuleSource) (b : Begun roster source first second) (answer : Result B Refusal) →
        Next b.read b.rules rest answer → Whole source (files_read first source second rest) answer
    whole_by standard b answer next =
        inl (b.read, b.given, subst (λ rules. Next b.read rules rest answer) (sym b.are) next)
    whole_by (in_file name) b answer next = inl (b.read, b.given, inl (b.rules, b.are, next))

  -- the files of which something is found
  cut_of : (source : RuleSource) (files : List (Option (List ℕ))) (found : B) → Whole source files (Ok found) →
      (first second : Option (List ℕ)) × (rest : List (Option (List ℕ)))
      × (files ≡ files_read first source second rest)
  cut_of source [] found gives = absurd gives
  cut_of standard (file ∷ files) found gives = (file, None, files, refl)
  cut_of (in_file name) (file ∷ []) found gives = let (read, given, none) = found_then gives in absurd none
  cut_of (in_file name) (file ∷ other ∷ files) found gives = (file, other, files, refl)

  -- files of which something is found: they begin so, and the others give it
  pub record Opened (source : RuleSource) (files : List (Option (List ℕ))) (found : B) : Type 0 where
    pub first : Option (List ℕ)
    pub second : Option (List ℕ)
    pub rest : List (Option (List ℕ))
    pub cut : files ≡ files_read first source second rest
    pub begun : Begun roster source first second
    pub next : Next begun.read begun.rules rest (Ok found)

  pub opened : (source : RuleSource) (files : List (Option (List ℕ))) (found : B) → Whole source files (Ok found) →
      Opened source files found
  opened source files found gives =
      let (first, second, rest, is) = cut_of source files found gives in
      let (b, next) = begun_by first second rest source found (subst (λ fs. Whole source fs (Ok found)) is gives) in
      record { first = first; second = second; rest = rest; cut = is; begun = b; next = next }
