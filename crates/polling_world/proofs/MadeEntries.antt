-- The entries that a machine makes.
use Rattle.polling_world.proofs.Imports.{◌≡◌, ℕ, Bool, false, List, refl, sym, ap, ◌∙◌, ◌↔◌, IsTrue, true≢false}
use Rattle.polling_world.proofs.Imports.{sha256, text_of, Secret, public_of, signed_by, Deed, Entry, body_tree}
use Rattle.polling_world.proofs.Imports.{signed_tree, node_of_sealed, SealedEntry, key_at, IsValid, same_sealed}
use Rattle.polling_world.proofs.Imports.{Event, Sent, MayFollow, held, IsBorneIn, IsHeldAlready, Config, made}
use Rattle.polling_world.proofs.Imports.{entry_with, next_entry, MachineState, MaySend, next_action, IsReady}
use Rattle.std.specs.Prelude.{Some}

-- what is made has the entry that was asked for
pub entry-made : (config : Config) (k stamp : ℕ) (names : List (List ℕ)) (deed : Deed) →
    (made config k stamp names deed).entry ≡ entry_with config k stamp names deed
unfolding made
entry-made config k stamp names deed = refl

-- a sealed entry whose parts are these is the one that is made
pub is_made : (config : Config) (k stamp : ℕ) (names : List (List ℕ)) (deed : Deed) (sealed : SealedEntry) →
    sealed.entry ≡ entry_with config k stamp names deed →
    sealed.signature ≡ signed_by (record config.key { next = k }) (text_of (body_tree sealed.entry)) →
    sealed.text ≡ text_of (signed_tree sealed.entry sealed.signature) → sealed.digest ≡ sha256 sealed.text →
    sealed.key ≡ public_of config.key → sealed ≡ made config k stamp names deed
unfolding made
is_made config k stamp names deed sealed entry signature text digest key =
    let body = entry_with config k stamp names deed in
    let signed : sealed.signature ≡ (made config k stamp names deed).signature =
    signature ∙ ap (λ e. signed_by (record config.key { next = k }) (text_of (body_tree e))) entry in
    let spelt : sealed.text ≡ (made config k stamp names deed).text =
    text ∙ ap (λ e. text_of (signed_tree e sealed.signature)) entry
    ∙ ap (λ s. text_of (signed_tree body s)) signed in
    same_sealed sealed (made config k stamp names deed) entry signed spelt (digest ∙ ap sha256 spelt) key

-- what a machine's key sealed is what it makes
pub sealed_is_made : (config : Config) (k stamp : ℕ) (names : List (List ℕ)) (deed : Deed) (secret : Secret)
    (entry : Entry) (sealed : SealedEntry) → secret ≡ record config.key { next = k } →
    public_of config.key ≡ key_at config.roster config.number → entry ≡ entry_with config k stamp names deed →
    sealed.entry ≡ entry → sealed.signature ≡ signed_by secret (text_of (body_tree entry)) →
    IsValid config.roster entry.election sealed.text sealed → sealed ≡ made config k stamp names deed
sealed_is_made config k stamp names deed secret entry sealed keys public says same signed valid =
    is_made config k stamp names deed sealed (same ∙ says)
    (signed ∙ ap (λ s. signed_by s (text_of (body_tree entry))) keys
    ∙ ap (λ e. signed_by (record config.key { next = k }) (text_of (body_tree e))) (sym same))
    valid.kept.spelt.spelt valid.kept.hashed
    (valid.key ∙ ap (λ e. key_at config.roster e.maker) (same ∙ says) ∙ sym public)

-- what may be sent may follow in a legal history
pub may_follow : (config : Config) (h : List (Event SealedEntry)) (e : SealedEntry) → MaySend config h e →
    MayFollow node_of_sealed config.number h (Sent e)
may_follow config h e may =
    let entry : e.entry ≡ (entry_with config _ _ _ may.deed) =
    ap (λ (s : SealedEntry). s.entry) may.made ∙ entry-made config _ _ _ may.deed in (
      may.new,
      record {
        maker = ap (λ (n : Entry). n.maker) entry;
        number = ap (λ (n : Entry). n.number) entry;
        stamp = ap (λ (n : Entry). n.stamp) entry;
        names = ap (λ (n : Entry). n.names) entry;
      },
    )

-- the entry of a next action that is ready may be sent where its digest isn't held
pub may_send : (m : MachineState) (deed : Deed) (e : SealedEntry) (digest : List ℕ) (told : Bool) →
    next_action m.config m.events ≡ Some deed → IsReady m deed → e ≡ next_entry m.config m.events deed →
    IsTrue told ↔ IsBorneIn node_of_sealed (held m.events) digest → told ≡ false → digest ≡ e.digest →
    MaySend m.config m.events e
may_send m deed e digest told action ready made tells free same = record {
  deed = deed;
  action = action;
  allowed = ready.allowed;
  room = ready.room;
  unspent = ready.unspent;
  made = made;
  new = λ g there equal. true≢false (sym (tells.1 (g, there, equal ∙ sym same)) ∙ free);
}

-- where it is held, no entry is sent
pub held_already : (m : MachineState) (deed : Deed) (e : SealedEntry) (digest : List ℕ) →
    next_action m.config m.events ≡ Some deed → IsReady m deed → e ≡ next_entry m.config m.events deed →
    IsBorneIn node_of_sealed (held m.events) digest → digest ≡ e.digest → IsHeldAlready m
held_already m deed e digest action ready made (other, there, bears) same = record {
  deed = deed;
  action = action;
  ready = ready;
  held = (other, there, bears ∙ same ∙ ap (λ (s : SealedEntry). s.digest) made);
}
