-- Survivors with an entry more for each wish, whose digest is its own.
use Rattle.rule_exactness.proofs.Imports
use Imports.{[], ap, AreDigests, arith, Contains, Contains-append_left, Contains-append_right, Contains-cons_cases}
use Imports.{Contains-head, Contains-later, Contains-map, Contains-none, Contains-one, Distinct, gaps, inl, inr}
use Imports.{IsBorneIn, IsPath, length, length-append, length-map, List, map, Node, Precedes, precedes_over, refl}
use Imports.{subst, suc, sym, zero, ℕ, ◌++◌, ◌+◌, ◌<◌, ◌^◌, ◌∙◌, ◌∷◌, ◌≡◌, ◌≤◌, ◌⊎◌}
use Rattle.rule_exactness.proofs.Digests.{fresh, fresh_length, fresh_new}

-- an entry to be made, whatever it names and whatever its digest
pub record Wish {T : Type 0} (node : T → Node) (machines : ℕ) : Type 0 where
  pub make : List (List ℕ) → List ℕ → T
  pub bears : (ns : List (List ℕ)) (d : List ℕ) → (node (make ns d)).digest ≡ d
  pub names : (ns : List (List ℕ)) (d : List ℕ) → (node (make ns d)).names ≡ ns
  pub maker : (ns : List (List ℕ)) (d : List ℕ) → (node (make ns d)).maker < machines

-- what is made has this, where it names at most one digest
abbrev pub IsFairly : {T : Type 0} → (T → Type 0) → (List (List ℕ) → List ℕ → T) → Type 0
IsFairly P make = (ns : List (List ℕ)) (d : List ℕ) → length ns ≤ 1 → AreDigests ns → length d ≡ 32 → P (make ns d)

-- the digest of the first, if there is one
abbrev pub head_name : {T : Type 0} → (T → Node) → List T → List (List ℕ)
head_name node [] = []
head_name node (e ∷ es) = (node e).digest ∷ []

-- what bears a first entry's digest
pub head_borne : {T : Type 0} (node : T → Node) (es : List T) (d : List ℕ) → Contains (head_name node es) d →
    IsBorneIn node es d
head_borne node [] d c = absurd (Contains-none d c)
head_borne node (e ∷ es) d c = (e, Contains-head e es, Contains-one (node e).digest d c)

-- that is one digest at most
pub head_few : {T : Type 0} (node : T → Node) (es : List T) → length (head_name node es) ≤ 1
head_few node [] = omega arith
head_few node (e ∷ es) = omega arith

module _ {T : Type 0} (node : T → Node) (S : List T) where
  -- an entry's digest
  abbrev digest_of : T → List ℕ
  digest_of e = (node e).digest

  -- the digests of these and of the survivors, and the survivors' gaps
  abbrev pub taken : List T → List (List ℕ)
  taken es = map digest_of (es ++ S) ++ gaps node S

  -- A chain: each names the one behind it in the list, the last one nothing, and has a digest of its own.
  pub data IsChain : List T → Type 0 where
    none : IsChain []
    more : {e : T} {es : List T} → (node e).names ≡ head_name node es → ¬ Contains (taken es) (node e).digest →
        IsChain es → IsChain (e ∷ es)

  -- what one of them names is the digest of another
  pub chain_named : {es : List T} → IsChain es → (e : T) → Contains es e → (d : List ℕ) → Contains (node e).names d →
      IsBorneIn node es d
  chain_named none e c d named = absurd (Contains-none e c)
  chain_named (more {es = es} names new chain) e (zero, l, is) d named =
      let (f, c, bears) = head_borne node es d (rw (← is, names) at named) in (f, Contains-later _ es f c, bears)
  chain_named (more {es = es} names new chain) e (suc k, l, at) d named =
      let (f, c, bears) = chain_named chain e (k, omega arith, at) d named in (f, Contains-later _ es f c, bears)

  -- none of them has a survivor's digest, or a gap
  pub chain_new : {es : List T} → IsChain es → (e : T) → Contains es e →
      IsBorneIn node S (node e).digest ⊎ Contains (gaps node S) (node e).digest → ⊥
  chain_new none e c old = Contains-none e c
  chain_new (more {es = es} names new chain) e (zero, l, is) old = new (rw is (elim old [
    | inl (f, there, same) ↦
        let member = Contains-append_right es S f there in
        rw (← same) (Contains-append_left _ _ _ (Contains-map digest_of (es ++ S) f member))
    | inr gap ↦ Contains-append_right (map digest_of (es ++ S)) (gaps node S) _ gap
  ]))
  chain_new (more names new chain) e (suc k, l, at) old = chain_new chain e (k, omega arith, at) old

  -- no two of them and of the survivors have one digest
  pub chain_distinct : Distinct node S → {es : List T} → IsChain es → Distinct node (es ++ S)
  chain_distinct distinct none = distinct
  chain_distinct distinct (more {e = h} {es = es} names new chain) = λ e f ce cf same.
      let apart = λ (g : T) (c : Contains (es ++ S) g) (borne : (node g).digest ≡ (node h).digest).
      new (rw (← borne) (Contains-append_left _ _ _ (Contains-map digest_of (es ++ S) g c))) in
      elim (Contains-cons_cases h (es ++ S) e ce) [
        | inl is ↦ elim (Contains-cons_cases h (es ++ S) f cf) [
          | inl also ↦ sym is ∙ also
          | inr there ↦ absurd (apart f there (sym same ∙ ap digest_of (sym is)))
        ]
        | inr there ↦ elim (Contains-cons_cases h (es ++ S) f cf) [
          | inl is ↦ absurd (apart e there (same ∙ ap digest_of (sym is)))
          | inr also ↦ chain_distinct distinct chain e f there also same
        ]
      ]

  module _ (E : List T) (distinct : Distinct node E) where
    -- these are among the entries
    abbrev AreAmong : List T → Type 0
    AreAmong es = (f : T) → Contains es f → Contains E f

    -- what bears a digest of theirs is one of them
    one_of : (es : List T) → AreAmong es → (f : T) → Contains E f → IsBorneIn node es (node f).digest → Contains es f
    one_of es among f cf (g, c, bears) = subst (Contains es) (distinct g f (among g c) cf bears) c

    -- what precedes an entry that names them alone is one of them
    pub chain_back : {es : List T} → IsChain es → AreAmong es → (e : T) → ((d : List ℕ) → Contains (node e).names d →
        IsBorneIn node es d) → (f : T) (between : List T) → Contains E f → IsPath node E f between e → Contains es f
    chain_back chain among e named f [] cf names = one_of _ among f cf (named (node f).digest names)
    chain_back chain among e named f (g ∷ gs) cf (cg, names, path) =
        one_of _ among f cf (chain_named chain g (chain_back chain among e named g gs cg path) (node f).digest names)

    -- none of them precedes itself
    pub chain_acyclic : {es : List T} → IsChain es → AreAmong es → (e : T) (between : List T) → Contains es e →
        IsPath node E e between e → ⊥
    chain_acyclic none among e between c path = Contains-none e c
    chain_acyclic (more {e = h} {es = es} names new chain) among e between c path =
        let later : AreAmong es = λ f there. among f (Contains-later h es f there) in
        chain_acyclic chain later e between (elim (Contains-cons_cases h es e c) [
          | inl is ↦
              let named_back = λ (d : List ℕ) (named : Contains (node e).names d).
              head_borne node es d (rw (← is, names) at named) in
              chain_back chain later e named_back e between (among e c) path
          | inr following ↦ following
        ]) path

    -- each of them precedes what names the first
    pub chain_path : {es : List T} → IsChain es → AreAmong es → (h : T) → Contains E h → ((c : List ℕ) →
        Contains (head_name node es) c → Contains (node h).names c) → (e : T) → Contains es e → Precedes node E e h
    chain_path none among h ch named e c = absurd (Contains-none e c)
    chain_path (more {e = f} {es = es} names new chain) among h ch named e c =
        let there = among f (Contains-head f es) in
        let step : Precedes node E f h = (there, ch, [], named (node f).digest (Contains-head (node f).digest [])) in
        elim (Contains-cons_cases f es e c) [
          | inl is ↦ subst (λ (x : T). Precedes node E x h) is step
          | inr following ↦
              precedes_over node E e f h (chain_path chain (λ g c. among g (Contains-later f es g c)) f there
              (λ d c. rw names c) e following) step
        ]

  module _ (machines : ℕ) where
    -- a chain with an entry for each wish
    abbrev pub granted : List (Wish node machines) → List T
    granted [] = []
    granted (w ∷ ws) = w.make (head_name node (granted ws)) (fresh (taken (granted ws))) ∷ granted ws

    -- what holds of all that is made for the wishes holds of them
    pub granted_are : (P : T → Type 0) (ws : List (Wish node machines)) →
        ((w : Wish node machines) → Contains ws w → IsFairly P w.make) → (e : T) → Contains (granted ws) e → P e
    granted_are P [] fair e c = absurd (Contains-none e c)
    granted_are P (w ∷ ws) fair e (zero, l, is) =
        subst P is (fair w (Contains-head w ws) _ _ (head_few node (granted ws)) (λ d c.
        let (f, there, bears) = head_borne node (granted ws) d c in
        subst (λ (b : List ℕ). length b ≡ 32) bears (granted_are (λ x. length (digest_of x) ≡ 32) ws
        (λ v _ ns b _ _ long. rw (v.bears ns b) long) f there)) (fresh_length (taken (granted ws))))
    granted_are P (w ∷ ws) fair e (suc k, l, at) =
        granted_are P ws (λ v c. fair v (Contains-later w ws v c)) e (k, omega arith, at)

    -- and each wish is granted
    pub granted_each : (ws : List (Wish node machines)) (w : Wish node machines) → Contains ws w →
        (ns : List (List ℕ)) × (d : List ℕ) × Contains (granted ws) (w.make ns d)
    granted_each [] w there = absurd (Contains-none w there)
    granted_each (v ∷ ws) w (zero, l, is) =
        let ns = head_name node (granted ws) in let d = fresh (taken (granted ws)) in
        (ns, d, (0, omega arith, ap (λ (u : Wish node machines). u.make ns d) is))
    granted_each (v ∷ ws) w (suc k, l, at) =
        let (ns, d, got) = granted_each ws w (k, omega arith, at) in (ns, d, Contains-later _ (granted ws) _ got)

    -- there is one entry for each wish
    length-granted : (ws : List (Wish node machines)) → length (granted ws) ≡ length ws
    length-granted [] = refl
    length-granted (w ∷ ws) = ap suc (length-granted ws)

    -- there are digests for these wishes
    abbrev pub HasRoom : List (Wish node machines) → Type 0
    HasRoom ws = length ws + (length S + length (gaps node S)) ≤ 256 ^ 32

    -- where there are, it is a chain
    pub granted_chain : (ws : List (Wish node machines)) → HasRoom ws → IsChain (granted ws)
    granted_chain [] room = none
    granted_chain (w ∷ ws) room =
        let all = length-append (map digest_of (granted ws ++ S)) (gaps node S) in
        let same = length-map (granted ws ++ S) digest_of in
        let both = length-append (granted ws) S in
        let one_each = length-granted ws in
        more (w.names _ _) (rw w.bears (fresh_new (taken (granted ws)) (omega arith))) (granted_chain ws (omega arith))
