-- Steps that read and steps that don't, one after another.
use Rattle.auditor.proofs.Imports.{[], AndThen, Contents, Err, FileThen, GivesRules, IfErr, IfOk, IfOk-weaker, IfSome}
use Rattle.auditor.proofs.Imports.{in_file, inl, InputFault, inr, IsAbsent, IsReadFrom, IsReadFromFile, List, Ok}
use Rattle.auditor.proofs.Imports.{on_weaker, one_first, OnOneFile, Option, read_ends, read_last, read_then, ReadFault}
use Rattle.auditor.proofs.Imports.{refl, Refusal, refusal_of, refused_by, Result, rule_files, RuleSource, RulesThen}
use Rattle.auditor.proofs.Imports.{RuleTree, standard, standard_rules, StoreGhosts, ℕ, ◌++◌, ◌∷◌, ◌≡◌, ◌≢◌}
pub use Rattle.evidence.proofs.{OnReads.of_one, OnReads.on_one, Steps.err_by}

module _ {S A X B Y : Type 0} (of : StoreGhosts S) (value : A → X) (names : List (List ℕ))
    (First : Contents → Result X Refusal → Type 0) (other : B → Y) (Next : X → Result Y Refusal → Type 0)
    (old new : S) where
  -- what both steps give
  abbrev Both : Contents → Result Y Refusal → Type 0
  Both files answer = AndThen (First files) Next answer

  -- what was found is the ground of a step that reads nothing
  pub and_then : (found : A) (result : Result B InputFault) → IsReadFrom of value names First old (Ok found) new
      → IfOk result (λ b. Next (value found) (Ok (other b)))
      → IfErr result (λ fault. IfSome (refusal_of fault) (λ refusal. Next (value found) (Err refusal)))
      → IfErr result (λ fault. (fault ≢ ReadFault) × (¬ IsAbsent fault))
      → IsReadFrom of other names Both old result new
  and_then found result first ok err only =
      read_last of value names First other Both old new found result first
      (IfOk-weaker result _ _ (λ b is files long gives. inl (value found, gives, is)) ok)
      (err_by result _ _ (λ refusal is files long gives. inl (value found, gives, is)) err) only

  -- a refusal of the first step is that of both
  pub and_refused : (fault : InputFault) → IsReadFrom of value names First old (Err fault) new
      → IsReadFrom of other names Both old (Err fault) new
  and_refused fault first =
      refused_by of value names First other names Both old new fault first
      (λ refusal. on_weaker of names _ (λ files. Both files (Err refusal)) old new
      (λ files long gives. inr (refusal, gives, refl)))

module _ {S A X B Y : Type 0} (of : StoreGhosts S) (value : A → X) (Gives : Option (List ℕ) → Result X Refusal → Type 0)
    (name : List ℕ) (other : B → Y) where
  -- what the file of this name gives, in a list
  abbrev First : Contents → Result X Refusal → Type 0
  First files answer = OnOneFile (λ file. Gives file answer) files

  module _ (Rest : X → Contents → Result Y Refusal → Type 0) (names : List (List ℕ)) where
    -- a file is read, and then the others
    pub file_joins : (old mid new : S) (found : A) (result : Result B InputFault)
        → IsReadFromFile of value name Gives old (Ok found) mid
        → IsReadFrom of other names (Rest (value found)) mid result new
        → IsReadFrom of other (name ∷ names) (FileThen Gives Rest) old result new
    file_joins old mid new found result first next =
        read_then of value (name ∷ []) First other names (Rest (value found)) (FileThen Gives Rest) old mid new found
        result first next
        (λ answer files rest long more gives with. one_first (λ file. Gives file (Ok (value found)))
        (λ fs. FileThen Gives Rest fs answer) files rest (λ file is. inl (value found, is, with)) gives)

    -- a file that is refused ends it
    pub file_ends : (old new : S) (fault : InputFault) → IsReadFromFile of value name Gives old (Err fault) new
        → IsReadFrom of other (name ∷ names) (FileThen Gives Rest) old (Err fault) new
    file_ends old new fault first =
        read_ends of value (name ∷ []) First other names (FileThen Gives Rest) old new fault first
        (λ refusal files rest long more gives. one_first (λ file. Gives file (Err refusal))
        (λ fs. FileThen Gives Rest fs (Err refusal)) files rest (λ file is. inr (refusal, is, refl)) gives)

module _ {S B Y : Type 0} (of : StoreGhosts S) (other : B → Y)
    (Next : List RuleTree → Contents → Result Y Refusal → Type 0) (source : RuleSource)
    (names : List (List ℕ)) where
  -- the standard rules are there
  pub standard_then : (rules : List RuleTree) (old new : S) (result : Result B InputFault) → source ≡ standard
      → rules ≡ standard_rules → IsReadFrom of other names (Next rules) old result new
      → IsReadFrom of other (rule_files source ++ names) (RulesThen source Next) old result new
  standard_then rules old new result is same given = rw is (rw same at given)

  module _ {R : Type 0} (trees : R → List RuleTree) (name : List ℕ) (is : source ≡ in_file name) where
    -- the rules of a file are read before the other files
    pub rules_then : (old mid new : S) (rules : R) (result : Result B InputFault)
        → IsReadFromFile of trees name (GivesRules name) old (Ok rules) mid
        → IsReadFrom of other names (Next (trees rules)) mid result new
        → IsReadFrom of other (rule_files source ++ names) (RulesThen source Next) old result new
    rules_then old mid new rules result first next =
        rw is (file_joins of trees (GivesRules name) name other Next names old mid new rules result first next)

    -- a refusal of the file of the rules ends it
    pub rules_end : (old new : S) (fault : InputFault)
        → IsReadFromFile of trees name (GivesRules name) old (Err fault) new
        → IsReadFrom of other (rule_files source ++ names) (RulesThen source Next) old (Err fault) new
    rules_end old new fault first =
        rw is (file_ends of trees (GivesRules name) name other Next names old new fault first)
