-- The histories of a run's machines determine its answer but for the causes of losses.
use Rattle.auditorium_core.proofs.Imports
use Imports.{[], Answer, ap, append-nil, Command, command_parts, drop, election_of, entry_of, Err, Event}
use Imports.{event_was_sent, get-map, history, history_there, inl, inr, IsAny, List, log_file, log_text, MachineState}
use Imports.{map, Ok, one_script, OnExposed, Option, OrRefused, PlayOne, refusal_answer, roster_of, run, same_Some}
use Imports.{same_undone, Script, scripts_are_honest, SealedEntry, slice_get, Some, subst, sym, ℕ, ◌++◌, ◌∙◌, ◌≡◌}
use Rattle.auditorium_core.specs.OneRun.{AreSameButCauses, HistoriesDetermineRuns, IsRunAnswerWith}
use Rattle.auditorium_core.specs.OneRun.{WrittenFilesDetermineAnswers}
use Rattle.auditorium_core.proofs.Commands.{have_one_answer, of_command}
use Rattle.auditorium_core.proofs.OneHistory.{AllValidly, same_log_events, same_machines}
use Rattle.auditorium_core.proofs.{CitedLaws.CitedLaws, SameLosses.same_losses}
use Rattle.place_commands.specs.Run.{IsRunAnswer, IsRunOf, run_answer}
use Rattle.place_commands.specs.{Play.machine_lines, ScriptFile.GivesScript}

-- an output without losses
no_losses : (output : List ℕ) → output ≡ (output ++ []) ++ []
no_losses output = sym (append-nil output) ∙ sym (append-nil (output ++ []))

-- an answer is the same as an equal one
same_answer : (a b : Answer) → a ≡ b → AreSameButCauses a b
same_answer a b same = record {
  status = ap (λ (x : Answer). x.status) same;
  files = ap (λ (x : Answer). x.files) same;
  ahead = ap (λ (x : Answer). x.ahead) same;
  roster = [];
  losses = [];
  others = [];
  front = a.output;
  rest = [];
  causes = tt;
  output = no_losses a.output;
  other_output = ap (λ (x : Answer). x.output) (sym same) ∙ no_losses a.output;
}

-- where mapped lists are the same, so are the values at each place
same_mapped : {X Y : Type 0} (f : X → Y) (xs ys : List X) → map f xs ≡ map f ys → (place : ℕ) (x y : X) →
    slice_get xs place ≡ Some x → slice_get ys place ≡ Some y → f x ≡ f y
same_mapped {X} {Y} f xs ys same place x y here there =
    same_Some (f x) (f y)
    (sym (get-map f xs place x here) ∙ ap (λ (zs : List Y). slice_get zs place) same ∙ get-map f ys place y there)

module _ (one : PlayOne) (prefix : List ℕ) (script : Script) (a b : Answer) (p : IsRunOf prefix script a)
    (q : IsRunOf prefix script b) where
  -- answers of the same machines are the same but for the causes of losses
  same_told : p.machines ≡ q.machines → AreSameButCauses a b
  same_told same =
      let undone : p.undone ≡ q.undone =
      same_undone one q.machines p.undone q.undone (rw same at p.left) q.left in
      let told : a ≡ run_answer prefix (roster_of script) q.machines p.losses q.undone =
      p.told ∙ (λ i. run_answer prefix (roster_of script) (same i) p.losses (undone i)) in
      record {
        status = ap (λ (x : Answer). x.status) told ∙ sym (ap (λ (x : Answer). x.status) q.told);
        files = ap (λ (x : Answer). x.files) told ∙ sym (ap (λ (x : Answer). x.files) q.told);
        ahead = ap (λ (x : Answer). x.ahead) told ∙ sym (ap (λ (x : Answer). x.ahead) q.told);
        roster = roster_of script;
        losses = p.losses;
        others = q.losses;
        front = machine_lines q.machines;
        rest = q.undone;
        causes = same_losses script q.machines q.orderly p.losses q.losses (rw same at p.lost) q.lost;
        output = ap (λ (x : Answer). x.output) told;
        other_output = ap (λ (x : Answer). x.output) q.told;
      }

  -- the events of a machine
  abbrev events_of : MachineState → List (Event SealedEntry)
  events_of m = m.events

  -- machines with the same histories are the same
  by_histories : map events_of p.machines ≡ map events_of q.machines → p.machines ≡ q.machines
  by_histories same =
      same_machines script p.honest.roster.lawful p.machines q.machines p.made q.made
      (same_mapped events_of p.machines q.machines same)

-- each event of a run's machine has a valid entry
run_valid : (prefix : List ℕ) (script : Script) (a : Answer) (p : IsRunOf prefix script a) (place : ℕ)
    (m : MachineState) → slice_get p.machines place ≡ Some m →
    AllValidly (roster_of script) (election_of (roster_of script)) m.events
run_valid prefix script a p place m at x inside =
    let roster = p.honest.roster in
    let honest = scripts_are_honest script roster.lawful roster.steps p.w roster.comes in
    let there : m.events ≡ history p.w place =
    sym (history_there p.machines place m at) ∙ sym (p.again.same place) in
    honest.valid (entry_of x) (event_was_sent p.w honest.orderly place x (rw there at inside))

module _ (one : PlayOne) (prefix : List ℕ) (script : Script) (a b : Answer) (p : IsRunOf prefix script a)
    (q : IsRunOf prefix script b) (same : a.files ≡ b.files) where
  -- the files of logs are the same
  same_logs : map (log_file prefix) p.machines ≡ map (log_file prefix) q.machines
  same_logs = ap (drop 1) (sym (ap (λ (x : Answer). x.files) p.told) ∙ same ∙ ap (λ (x : Answer). x.files) q.told)

  -- the number of a machine is its place
  numbers : (place : ℕ) (m n : MachineState) → slice_get p.machines place ≡ Some m →
      slice_get q.machines place ≡ Some n → n.config.number ≡ m.config.number
  numbers place m n at there =
      ap (λ (u : MachineState). u.config.number) (q.made.each place n there).made.2
      ∙ sym (ap (λ (u : MachineState). u.config.number) (p.made.each place m at).made.2)

  -- machines that wrote the same files are the same
  by_files : p.machines ≡ q.machines
  by_files =
      same_machines script p.honest.roster.lawful p.machines q.machines p.made q.made
      (λ place m n at there.
      same_log_events (roster_of script) (election_of (roster_of script)) m.config.number m.events n.events
      (run_valid prefix script a p place m at) (run_valid prefix script b q place n there)
      (ap (λ (file : List ℕ × List ℕ). file.1)
      (same_mapped (log_file prefix) p.machines q.machines same_logs place m n at there)
      ∙ ap (λ (number : ℕ). log_text number n.events) (numbers place m n at there)))

-- two answers of `run` over one file are the same but for causes, where those of one script are
module _ (one : PlayOne) (name prefix : List ℕ) (file : Option (List ℕ)) (a b : Answer) where
  by_script : (IsFor : Script → Answer → Type 0) →
      ((script : Script) → IsFor script a → IsFor script b → AreSameButCauses a b) →
      OrRefused (GivesScript name file) IsFor a → OrRefused (GivesScript name file) IsFor b → AreSameButCauses a b
  by_script IsFor next (inl (r, gives, e)) (inl (s, gives', e')) =
      let one_refusal : Err r ≡ Err s = one_script one name file (Err r) (Err s) gives gives' in
      let refusals : r ≡ s = cc in
      same_answer a b (e ∙ ap refusal_answer refusals ∙ sym e')
  by_script IsFor next (inl (r, gives, e)) (inr (g, gives', q)) =
      let no : Err r ≡ Ok g = one_script one name file (Err r) (Ok g) gives gives' in cc
  by_script IsFor next (inr (f, gives, p)) (inl (s, gives', e')) =
      let no : Ok f ≡ Err s = one_script one name file (Ok f) (Err s) gives gives' in cc
  by_script IsFor next (inr (f, gives, p)) (inr (g, gives', q)) =
      let scripts : Ok f ≡ Ok g = one_script one name file (Ok f) (Ok g) gives gives' in
      let one_of : g ≡ f = cc in
      next f p (subst (λ (s : Script). IsFor s b) one_of q)

  -- the right answers that wrote the same files
  same_files : IsRunAnswer name prefix file a → IsRunAnswer name prefix file b → a.files ≡ b.files →
      AreSameButCauses a b
  same_files x y same =
      by_script (IsRunOf prefix)
      (λ script p q. same_told one prefix script a b p q (by_files one prefix script a b p q same)) x y

  -- the right answers with the same histories
  same_histories : (histories : List (List (Event SealedEntry))) → IsRunAnswerWith histories name prefix file a →
      IsRunAnswerWith histories name prefix file b → AreSameButCauses a b
  same_histories histories =
      by_script (λ script answer. (is : IsRunOf prefix script answer)
      × (map (λ (m : MachineState). m.events) is.machines ≡ histories))
      (λ script (p, has) (q, also).
      same_told one prefix script a b p q (by_histories one prefix script a b p q (has ∙ sym also)))

-- the histories of a run's machines determine the answer
pub histories_determine_runs : PlayOne → HistoriesDetermineRuns
histories_determine_runs one histories name prefix file a b = same_histories one name prefix file a b histories

-- the files that are written determine the answer, of every command
pub written_files_determine_answers : CitedLaws → WrittenFilesDetermineAnswers
written_files_determine_answers laws words files a b (inl (command, any, means, is)) right same =
    by command is (of_command IsAny words (OnExposed (Some files)) command b any means right)
  where
    -- by the command
    by : (c : Command) → (command_parts c).IsAnswer (map files (command_parts c).files) a →
        (command_parts c).IsAnswer (map files (command_parts c).files) b → AreSameButCauses a b
    by (run script prefix) x y = same_files laws.plays script prefix (files script) a b x y same
    by c x y = same_answer a b (have_one_answer laws c tt (map files (command_parts c).files) a b x y)
written_files_determine_answers laws words files a b (inr (bad, e, on)) (inl (command, any, means, is)) same =
    absurd (bad (command, any, means))
written_files_determine_answers laws words files a b (inr (bad, e, on)) (inr (bad', f, on')) same =
    same_answer a b (e ∙ sym f)
