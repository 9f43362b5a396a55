-- What a script's machines come to is an honest polling place.
use Rattle.honest_places.proofs.Imports
use Imports.{all_at, ap, arith, Cast0, Config, config_of, Deed, element_at, Entry, entry-made, Event, history}
use Imports.{history_there, HonestyIsOfHistories, in_world, IsCast, IsDeedAmong, IsDeedIn, IsDeedOf, IsLawful, IsLegal}
use Imports.{length, length-map, List, machine_of, MachineState, MayAs, MaySend, node_of_sealed, option_map, post_of}
use Imports.{role_at, role_in, roster_has_text, roster_of, Script, SealedEntry, Sent, sent, sent_in_cases, sent_in_from}
use Imports.{slice_get, slice_get-map, Some, subst, sym, world_of, ℕ, ◌++◌, ◌∙◌, ◌∷◌, ◌≡◌}
use Rattle.honest_places.proofs.LogScripts.{could_send, MaySendAt, scripts_are_honest}
use Rattle.honest_places.proofs.RuleAudits.{honest_audits_never_say_broken, honest_audits_say_kept}
use Rattle.honest_places.proofs.RuleAudits.{standard_rules_are_narrow}
use Rattle.honest_places.proofs.Rules.{honest_entries_have_no_early_end, honest_entries_keep_the_rules}
use Rattle.honest_places.specs.PlacesOfScripts as places

module _ (script : Script) (lawful : IsLawful script) where
  -- the role of a machine in the script's roster is the script's
  role_is : (m : ℕ) (cast : Cast0) → slice_get script.machines m ≡ Some cast → role_at (roster_of script) m ≡ cast.role
  role_is m cast is =
      ap role_in (slice_get-map (post_of script) script.machines m ∙ ap (option_map (post_of script)) is)

  -- what a machine of the script may send, its role may
  may_as : (m : ℕ) (past : List (Event SealedEntry)) (e : SealedEntry) → MaySendAt script m past e →
      MayAs (role_at (roster_of script) m) m past e
  may_as m past e (cast, at, may) =
      let each = all_at (IsCast script.version script.machines) script.machines m cast lawful.machines.actions at in
      let among = all_at
      (λ (d : Deed). IsDeedOf cast.role d × IsDeedIn script.version d × IsDeedAmong script.machines d) cast.actions
      (length (sent past)) may.deed each may.action in
      let says : may.deed ≡ e.entry.deed =
      sym (ap (λ (s : SealedEntry). s.entry.deed) may.made
      ∙ ap (λ (n : Entry). n.deed) (entry-made (config_of script m cast) _ _ _ may.deed)) in
      record {
        of_role = rw (role_is m cast at, ← says) among.0;
        no_cause = rw (role_is m cast at, ← says) may.allowed;
      }

  -- what was sent by machines that are there, which could send it
  machine_could : (machines : List MachineState) → places.AreOrderlyMachinesOf script machines → (m : ℕ)
      (past : List (Event SealedEntry)) (e : SealedEntry) (later : List (Event SealedEntry)) →
      history (world_of machines) m ≡ past ++ Sent e ∷ later → MaySendAt script m past e
  machine_could machines are m past e later is =
      let there = in_world (world_of machines) m past (Sent e) later is in
      let (u, at) = element_at machines m (omega (arith, there, length-map machines machine_of)) in
      let number = are.number m u at in
      let (cast, stands, of) = are.config m u at in
      let may = subst (λ (c : Config). MaySend c past e) (of ∙ ap (λ (n : ℕ). config_of script n cast) number)
      (are.made m u at past e later (sym (history_there machines m u at) ∙ is)) in
      (cast, ap (slice_get script.machines) (sym number) ∙ stands, may)

-- the machines of a script that are orderly together are an honest place
pub machines_are_honest : places.MachinesAreHonest
machines_are_honest script machines lawful are = record {
  supervisor = (roster_has_text script lawful).roster.supervisor;
  orderly = are.orderly;
  allowed = λ m past e later is.
      may_as script lawful m past e (machine_could script lawful machines are m past e later is);
}

-- a lawful script's machines come to an honest polling place
pub scripts_lead_to_honest_places : places.ScriptsLeadToHonestPlaces
scripts_lead_to_honest_places script steps w lawful come = record {
  supervisor = (roster_has_text script lawful).roster.supervisor;
  orderly = (scripts_are_honest script lawful steps w come).orderly;
  allowed = λ m past e later is.
      may_as script lawful m past e (could_send script lawful steps w come m past e later is);
}

-- of any entries that were sent there each standard rule holds
pub scripts_keep_the_rules : places.ScriptsKeepTheRules
scripts_keep_the_rules script steps w lawful come =
    honest_entries_keep_the_rules (roster_of script) w (scripts_lead_to_honest_places script steps w lawful come)

-- of none of them a standard rule is known to be false
pub scripts_are_never_broken : places.ScriptsAreNeverBroken
scripts_are_never_broken script steps w lawful come =
    honest_audits_never_say_broken (roster_of script) w (scripts_lead_to_honest_places script steps w lawful come)

-- given all entries that a script's machines sent, each standard rule is known to be kept
pub scripts_are_kept : places.ScriptsAreKept
scripts_are_kept script steps w lawful come =
    honest_audits_say_kept (roster_of script) w (scripts_lead_to_honest_places script steps w lawful come)

-- of no entries that were sent there an end of a session precedes an authorising of it
pub scripts_have_no_early_end : places.ScriptsHaveNoEarlyEnd
scripts_have_no_early_end script steps w lawful come =
    honest_entries_have_no_early_end (roster_of script) w (scripts_lead_to_honest_places script steps w lawful come)

-- over no entries that were sent there a standard rule is too wide, since a script has at most
-- 4,096 actions
pub scripts_are_never_too_wide : places.ScriptsAreNeverTooWide
scripts_are_never_too_wide script steps w lawful come distinct =
    standard_rules_are_narrow (roster_of script) w (scripts_lead_to_honest_places script steps w lawful come) distinct
    (scripts_are_honest script lawful steps w come).few_sent

-- whether a place is honest depends on its histories alone: what was sent in the one was sent in
-- the other
pub honesty_is_of_histories : HonestyIsOfHistories
honesty_is_of_histories posts v w same honest = record {
  supervisor = honest.supervisor;
  orderly = record {
    legal = λ m. subst (IsLegal node_of_sealed m) (sym (same m)) (honest.orderly.legal m);
    heard = λ m e c.
        let (k, there) = sent_in_cases v e (honest.orderly.heard m e (rw (same m) at c)) in
        sent_in_from w k e (rw (same k) there);
  };
  allowed = λ m past e later is. honest.allowed m past e later (sym (same m) ∙ is);
}
