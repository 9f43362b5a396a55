-- Where nothing more can be said of a rule by survivors alone.
use Rattle.std.specs.Prelude.{◌≡◌, ◌≢◌, ◌↔◌, ◌⊎◌, ℕ, ◌<◌, ◌≤◌, ◌^◌, Bool, true, List, length, map}
use Rattle.std.specs.List.{Contains}
use Rattle.entry_order.specs.declared.three.Three.{Three}
use Rattle.entry_order.specs.declared.three.Three.TheVariants.{False, Unknown, True}
use Rattle.entry_order.specs.Node.{Node}
use Rattle.entry_order.specs.Precedes.{Precedes, IsAcyclic}
use Rattle.entry_order.specs.Settled.{IsGraphOf}
use Rattle.entry_order.specs.Completion.{Completion}
use Rattle.entry_order.specs.Exact.{AreSurvivors}
use Rattle.rule_language.specs.declared.row.Row.{Row}
use Rattle.rule_language.specs.declared.kind.Kind.{Kind}
use Rattle.rule_language.specs.declared.kind.Kind.TheVariants as kind
use Rattle.rule_language.specs.Kinds.{has_session, has_ballot, has_booth}
use Rattle.rule_language.specs.Trees.{Trees, RuleTree}
use Rattle.rule_language.specs.Standard.{standard_rules, p3_body}
use Rattle.rule_meaning.specs.Meaning.{Holds}
use Rattle.rule_meaning.specs.Values.{three_in}
use Rattle.rule_meaning.specs.Sound.{HasNoDouble}
use Rattle.rule_exactness.specs.TwoSided.{IsTwoSided}

-- what an entry may say of itself
pub record Saying : Type 0 where
  pub kind : Kind
  pub number : ℕ
  pub session : ℕ
  pub ballot : List ℕ
  pub booth : ℕ

-- the numbers are of 32 bits, and the ballot has 32 octets
pub record IsSayable (s : Saying) : Type 0 where
  pub number : s.number < 2 ^ 32
  pub session : s.session < 2 ^ 32
  pub ballot : length s.ballot ≡ 32
  pub booth : s.booth < 2 ^ 32

-- each has 32 octets
abbrev pub AreDigests : List (List ℕ) → Type 0
AreDigests ds = (d : List ℕ) → Contains ds d → length d ≡ 32

-- an entry can say anything: it can be made with any machine, names and digest
pub record CanSay {T : Type 0} (node : T → Node) (row : T → Row)
    (make : Saying → ℕ → List (List ℕ) → List ℕ → T) : Type 0 where
  pub digest : (s : Saying) (m : ℕ) (ns : List (List ℕ)) (d : List ℕ) → (node (make s m ns d)).digest ≡ d
  pub names : (s : Saying) (m : ℕ) (ns : List (List ℕ)) (d : List ℕ) → (node (make s m ns d)).names ≡ ns
  pub maker : (s : Saying) (m : ℕ) (ns : List (List ℕ)) (d : List ℕ) → (node (make s m ns d)).maker ≡ m
  pub one_maker : (e : T) → (row e).maker ≡ (node e).maker
  pub kind : (s : Saying) (m : ℕ) (ns : List (List ℕ)) (d : List ℕ) → s.kind ≢ kind.Any →
      (row (make s m ns d)).kind ≡ s.kind
  pub number : (s : Saying) (m : ℕ) (ns : List (List ℕ)) (d : List ℕ) → (row (make s m ns d)).number ≡ s.number
  pub session : (s : Saying) (m : ℕ) (ns : List (List ℕ)) (d : List ℕ) → has_session s.kind ≡ true →
      (row (make s m ns d)).session ≡ s.session
  pub ballot : (s : Saying) (m : ℕ) (ns : List (List ℕ)) (d : List ℕ) → has_ballot s.kind ≡ true →
      (row (make s m ns d)).ballot ≡ s.ballot
  pub booth : (s : Saying) (m : ℕ) (ns : List (List ℕ)) (d : List ℕ) → has_booth s.kind ≡ true →
      (row (make s m ns d)).booth ≡ s.booth

-- the entry is made of what is sayable, with a maker below 2 ^ 32, at most one name and a digest, both
-- of 32 octets
pub record IsMade {T : Type 0} (make : Saying → ℕ → List (List ℕ) → List ℕ → T) (e : T) : Type 0 where
  pub says : Saying
  pub maker : ℕ
  pub names : List (List ℕ)
  pub digest : List ℕ
  pub sayable : IsSayable says
  pub small : maker < 2 ^ 32
  pub few : length names ≤ 1
  pub named : AreDigests names
  pub long : length digest ≡ 32
  pub is : make says maker names digest ≡ e

module _ {T : Type 0} (node : T → Node) (row : T → Row) where
  -- a survivor's digest and names have 32 octets, it has at most 16384 names, and it says what is sayable
  pub record IsWellFormed (e : T) : Type 0 where
    pub digest : length (node e).digest ≡ 32
    pub few : length (node e).names ≤ 16384
    pub names : AreDigests (node e).names
    pub maker : (row e).maker < 2 ^ 32
    pub number : (row e).number < 2 ^ 32
    pub session : (row e).session < 2 ^ 32
    pub ballot : length (row e).ballot ≡ 32
    pub booth : (row e).booth < 2 ^ 32

  -- at most 16,384 survivors, each of them well-formed
  pub record AreWellFormed (machines : ℕ) (S : List T) : Type 0 where
    pub survivors : AreSurvivors node machines S
    pub few : length S ≤ 16384
    pub formed : (e : T) → Contains S e → IsWellFormed e

  -- no end of a session precedes an authorising of it
  abbrev pub NoEarlyEnd : List T → Type 0
  NoEarlyEnd S =
      (x z : T) → (row x).kind ≡ kind.Authorise → Precedes node S z x → (row z).session ≡ (row x).session →
      ((row z).kind ≢ kind.Cast) × ((row z).kind ≢ kind.Cancel) × ((row z).kind ≢ kind.Challenge)

module _ {T : Type 0} (node : T → Node) (row : T → Row) (MayBe : T → Type 0) where
  -- G completes the survivors S, each of its entries is a survivor or one that may be, and G is allowed.
  -- `MayBe` and `Allowed` are left open here: who uses this says which entries may have been lost, and
  -- which graphs are thought of.
  pub record MayComplete (Allowed : List T → Type 0) (machines : ℕ) (S G : List T) : Type 0 where
    pub whole : Completion node machines S G
    pub each : (e : T) → Contains G e → Contains S e ⊎ MayBe e
    pub allowed : Allowed G

  -- some G that may complete the survivors keeps the rule, and some G breaks it
  pub record IsOpen (Allowed : List T → Type 0) (machines : ℕ) (S : List T) (rule : Trees) : Type 0 where
    pub kept : (G : List T) × MayComplete Allowed machines S G × Holds node row S G rule
    pub broken : (G : List T) × MayComplete Allowed machines S G × (¬ Holds node row S G rule)

  -- The value is all that the survivors tell of the rule: it is true exactly where each G that may
  -- complete them keeps it, false exactly where none does, and unknown exactly where some G keeps it
  -- and some G breaks it.
  pub record IsAllThatIsTold (Allowed : List T → Type 0) (machines : ℕ) (S : List T) (rule : Trees) (is : Three)
      : Type 0 where
    pub kept : (is ≡ True) ↔ ((G : List T) → MayComplete Allowed machines S G → Holds node row S G rule)
    pub broken : (is ≡ False) ↔ ((G : List T) → MayComplete Allowed machines S G → ¬ Holds node row S G rule)
    pub unsettled : (is ≡ Unknown) ↔ IsOpen Allowed machines S rule

  -- So of each standard rule but P3 nobody can tell more by the same survivors, even if no entry
  -- precedes itself; and of P3, where no end of a session precedes an authorising of it.
  pub record IsExactOf (machines : ℕ) (S : List T) (rule : Trees) (is : Three) : Type 0 where
    pub all : rule ≢ p3_body → IsAllThatIsTold (IsAcyclic node) machines S rule is
    pub ends : rule ≡ p3_body → NoEarlyEnd node row S → IsAllThatIsTold (λ G. Unit {0}) machines S rule is

  -- so it is of each
  abbrev pub StandardRulesAreExact : Type 0
  StandardRulesAreExact =
      (machines : ℕ) (S : List T) (parents : ℕ → List ℕ) (ragged : ℕ → Bool) → HasNoDouble S →
      AreWellFormed node row machines S → IsGraphOf node S parents ragged → (rule : RuleTree) →
      Contains standard_rules rule → IsExactOf machines S rule.body (three_in (map row S) parents ragged rule.body)

  -- And so of each rule of one's own by which no kind is both asked for and forbidden.
  abbrev pub TwoSidedRulesAreExact : Type 0
  TwoSidedRulesAreExact =
      (machines : ℕ) (S : List T) (parents : ℕ → List ℕ) (ragged : ℕ → Bool) → HasNoDouble S →
      AreWellFormed node row machines S → IsGraphOf node S parents ragged → (rule : Trees) → IsTwoSided rule →
      IsAllThatIsTold (IsAcyclic node) machines S rule (three_in (map row S) parents ragged rule)
