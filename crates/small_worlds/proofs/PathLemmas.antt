-- What the search of paths finds is a path among the survivors.
use Rattle.entry_order.proofs.Lists.{Contains-filter, Contains-filter_cases, list_any_some}
use Rattle.entry_order.proofs.{Naming.names_digest_from, Naming.names_digest_of, Strays.rises_along}
use Rattle.entry_order.specs.{Node.Node, Precedes.IsPath, Precedes.Precedes, Survivors.is_stray, Survivors.survivors}
use Rattle.small_worlds.specs.inside.Paths.{is_before, is_next, leads, names_entry}
use Rattle.std.proofs.Common.{[], ap, arith, drop, false, get_or, inl, inr, length, List, refl, subst, suc, sym, true}
use Rattle.std.proofs.Common.{zero, ℕ, ◌+◌, ◌-◌, ◌<◌, ◌∙◌, ◌∷◌, ◌≡◌, ◌≤◌}
use Rattle.std.proofs.lemmas.Bool.{and_from, and_parts, not_from_false, or_cases, or_left, or_right}
use Rattle.std.proofs.lemmas.{List.at_drop_all, List.Folds.list_any_at, Option.slice_get_read}
use Rattle.std.specs.List.{Contains, list_any}
use Rattle.std.specs.Prelude.{not, slice_get, Some, ◌&&◌, ◌||◌, ◌↔◌}

-- one step of the search, its bound written as the code does
pub leads_step : {T : Type 0} (node : T → Node) (given : List T) (n : ℕ) (f e : T) → 0 < n →
    leads node given n f e ≡
    (names_entry node e f || list_any (λ g. is_next node given f g && leads node given (n - 1) g e) given)
leads_step node given zero f e l = absurd (omega arith)
leads_step node given (suc n) f e l = let less : suc n - 1 ≡ n = omega arith in rw less refl

-- a search finds a path over the next entry at a place
pub leads_over : {T : Type 0} (node : T → Node) (given : List T) (n : ℕ) (f e : T) → 0 < n → (i : ℕ) (g : T) →
    i < length given →
    g ≡ get_or given i g → is_next node given f g ≡ true → leads node given (n - 1) g e ≡ true →
    leads node given n f e ≡ true
leads_over {T} node given n f e l i g inside at next rest =
    let test = λ (g : T). is_next node given f g && leads node given (n - 1) g e in
    let both = and_from (is_next node given f g) (leads node given (n - 1) g e) next rest in
    leads_step node given n f e l
    ∙ or_right (names_entry node e f) (list_any test given)
    (list_any_at test given i g inside (ap test (sym at) ∙ both))

-- a search finds no path where no next entry is left
pub leads_nowhere : {T : Type 0} (node : T → Node) (given : List T) (n : ℕ) (f e : T) → 0 < n →
    names_entry node e f ≡ false → (i : ℕ) → length given ≤ i →
    list_any (λ g. is_next node given f g && leads node given (n - 1) g e) (drop i given)
    ≡ list_any (λ g. is_next node given f g && leads node given (n - 1) g e) given → leads node given n f e ≡ false
leads_nowhere {T} node given n f e l none i past same =
    let test = λ (g : T). is_next node given f g && leads node given (n - 1) g e in
    leads_step node given n f e l ∙ ap (λ b. b || list_any test given) none ∙ sym same
    ∙ at_drop_all (list_any test) given i past

module _ {T : Type 0} (node : T → Node) (given : List T) where
  -- what is no stray survives
  survives : (g : T) → Contains given g → is_stray node given g ≡ false → Contains (survivors node given) g
  survives g c free =
      Contains-filter (λ e. not (is_stray node given e)) given g c (not_from_false (is_stray node given g) free)

  -- where the search says so there is a path among the survivors
  from_leads : (n : ℕ) (f e : T) → leads node given n f e ≡ true →
      (between : List T) × IsPath node (survivors node given) f between e
  from_leads zero f e t = ([], names_digest_from node e (node f).digest t)
  from_leads (suc n) f e t =
      let on : list_any (λ g. is_next node given f g && leads node given n g e) given ≡ true →
      (between : List T) × IsPath node (survivors node given) f between e =
      λ t.
      let (g, is_given, found) = list_any_some (λ g. is_next node given f g && leads node given n g e) given t in
      let (next, leads_on) = and_parts (is_next node given f g) (leads node given n g e) found in
      let (no_stray, names_f) = and_parts (not (is_stray node given g)) (names_entry node g f) next in
      let (gs, path) = from_leads n g e leads_on in
      let here = Contains-filter (λ e. not (is_stray node given e)) given g is_given no_stray in
      (g ∷ gs, (here, names_digest_from node g (node f).digest names_f, path)) in
      elim (or_cases (names_entry node e f)
      (list_any (λ g. is_next node given f g && leads node given n g e) given) t) [
        | inl t ↦ ([], names_digest_from node e (node f).digest t)
        | inr t ↦ on t
      ]

  -- a path over n entries is found in n steps
  to_leads : (n : ℕ) (f : T) (between : List T) (e : T) → length between ≤ n →
      IsPath node (survivors node given) f between e → leads node given n f e ≡ true
  to_leads zero f [] e l p = names_digest_of node e (node f).digest p
  to_leads zero f (g ∷ gs) e l p = absurd (omega arith)
  to_leads (suc n) f [] e l p =
      or_left (names_entry node e f) (list_any (λ g. is_next node given f g && leads node given n g e) given)
      (names_digest_of node e (node f).digest p)
  to_leads (suc n) f (g ∷ gs) e l (there, names_f, path) =
      let ((i, inside, at), free) = Contains-filter_cases (λ e. not (is_stray node given e)) given g there in
      let next =
      and_from (not (is_stray node given g)) (names_entry node g f) free
      (names_digest_of node g (node f).digest names_f) in
      let both = and_from (is_next node given f g) (leads node given n g e) next
      (to_leads n g gs e (omega arith) path) in
      let test = λ (g : T). is_next node given f g && leads node given n g e in
      or_right (names_entry node e f) (list_any test given) (list_any_at test given i g inside (ap test at ∙ both))

  -- stamps rise along a path, so it isn't longer than its end's stamp
  long : (f : T) (between : List T) (e : T) → Contains (survivors node given) f → Contains (survivors node given) e →
      IsPath node (survivors node given) f between e → length between + (node f).stamp < (node e).stamp
  long f [] e cf ce p = let rise = rises_along node given f [] e cf ce p in omega arith
  long f (g ∷ gs) e cf ce (there, names_f, path) =
      let first = rises_along node given f [] g cf there names_f in
      let rest = long g gs e there ce path in
      omega arith

  -- the search of as many steps as the end's stamp finds a path exactly when there is one
  leads_is_path : (f e : T) → Contains (survivors node given) f → Contains (survivors node given) e →
      (leads node given (node e).stamp f e ≡ true) ↔ Precedes node (survivors node given) f e
  leads_is_path f e cf ce = (
    λ t. let (between, path) = from_leads (node e).stamp f e t in (cf, ce, between, path),
    λ (_, _, between, path). to_leads (node e).stamp f between e (omega (arith, long f between e cf ce path)) path,
  )

  -- the search finds a path exactly when there is one
  pub is_before_right : (f e : T) → Contains given f → Contains given e →
      (is_before node given f e ≡ true) ↔ Precedes node (survivors node given) f e
  is_before_right f e cf ce = (
    λ t.
        let first =
        and_parts (not (is_stray node given f))
        (not (is_stray node given e) && leads node given (node e).stamp f e) t in
        let second = and_parts (not (is_stray node given e)) (leads node given (node e).stamp f e) first.1 in
        let sf = Contains-filter (λ e. not (is_stray node given e)) given f cf first.0 in
        let se = Contains-filter (λ e. not (is_stray node given e)) given e ce second.0 in
        (leads_is_path f e sf se).0 second.1,
    λ (f_survives, e_survives, between, path).
        let (_, f_free) = Contains-filter_cases (λ e. not (is_stray node given e)) given f f_survives in
        let (_, e_free) = Contains-filter_cases (λ e. not (is_stray node given e)) given e e_survives in
        and_from (not (is_stray node given f)) (not (is_stray node given e) && leads node given (node e).stamp f e)
        f_free (and_from (not (is_stray node given e)) (leads node given (node e).stamp f e) e_free
        ((leads_is_path f e f_survives e_survives).1 (f_survives, e_survives, between, path))),
  )

  -- the order of entries at two places, as the code reads them
  pub is_before_at : (i j : ℕ) (f e g h : T) → i < length given → j < length given → f ≡ get_or given i f →
      e ≡ get_or given j e →
      slice_get given i ≡ Some g → slice_get given j ≡ Some h →
      (is_before node given f e ≡ true) ↔ Precedes node (survivors node given) g h
  is_before_at i j f e g h li lj fi ej gi hj =
      let first : f ≡ g = (let read = sym (slice_get_read given (length given) i f refl li fi) ∙ gi in cc) in
      let second : e ≡ h = (let read = sym (slice_get_read given (length given) j e refl lj ej) ∙ hj in cc) in
      subst (λ (u : T). (is_before node given f e ≡ true) ↔ Precedes node (survivors node given) u h) first
      (subst (λ (u : T). (is_before node given f e ≡ true) ↔ Precedes node (survivors node given) f u) second
      (is_before_right f e (i, li, sym fi) (j, lj, sym ej)))
