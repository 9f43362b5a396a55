use Rattle.demonstration.proofs.Imports.{◌∙◌, ◌≤◌, List, ℕ, length, ap, sym, subst, Ok, Err, text_of, Post, HaveText}
use Rattle.demonstration.proofs.Imports.{roster_tree, history, HasHeader, MachineState, IsPlayed, WorldState, world_of}
use Rattle.demonstration.proofs.Imports.{roster_has_text, refusal_of, max_roster, report_of, on_refusal, IsKeptOf}
use Rattle.demonstration.proofs.Imports.{GivesAudit, IsRefusedSo}
use Rattle.demonstration.proofs.Plays.{demonstrated, kept_has_header, refused_so, roster_short}
use Rattle.demonstration.proofs.shown.demonstrate.Goals as goal

pub report_on-requires-clause-roster : goal.report_on-requires-clause-roster
report_on-requires-clause-roster c =
    let same = ap (λ (w : WorldState). w.roster) c.world.view_is ∙ c.in_ok-world.ensures.roster in
    subst HaveText (sym same) (roster_has_text c.args.script.now c.requires.lawful)

pub report_on-requires-clause-short : goal.report_on-requires-clause-short
report_on-requires-clause-short c =
    let same = ap (λ (w : WorldState). w.roster) c.world.view_is ∙ c.in_ok-world.ensures.roster in
    let P : List Post → Type 0 = λ posts. length (text_of (roster_tree posts)) ≤ max_roster in
    subst P (sym same)
    (roster_short c.args.script.now c.requires.lawful c.in_ok-world.world.machines c.in_ok-world.ensures.machines)

pub report_on-requires-clause-header : goal.report_on-requires-clause-header
report_on-requires-clause-header c =
    subst HasHeader (sym c.as_slice.ensures.value)
    (kept_has_header c.args.session (history (world_of c.as_slice-machines.result.now) 0) c.in_ok-bytes.bytes.items
    c.in_ok-bytes.ensures)

pub returns-in-Ok-clause-ok : goal.returns-in-Ok-clause-ok
returns-in-Ok-clause-ok c =
    let script = c.args.script.now in
    let session = c.args.session in
    let machines = c.as_slice-machines.result.now in
    let bytes = c.as_slice.result.now in
    let same = ap (λ (w : WorldState). w.roster) c.world.view_is ∙ c.in_ok-world.ensures.roster in
    let here = c.as_slice-machines.ensures.value ∙ ap (λ (w : WorldState). w.machines) c.world.view_is in
    let played = subst (λ (ms : List MachineState). IsPlayed script ms) (sym here) c.in_ok-world.ensures.machines in
    let kept = subst (λ (bs : List ℕ). IsKeptOf session 0 (history (world_of machines) 0) bs)
    (sym c.as_slice.ensures.value) c.in_ok-bytes.ensures in
    let gives = subst (λ (posts : List Post). GivesAudit posts bytes (Ok (report_of c.in-Ok.report))) same
    c.in-Ok.ensures.ok in
    demonstrated script machines session c.count_sent-entries.result bytes (report_of c.in-Ok.report)
    c.shown_of.result played kept gives c.count_sent-entries.ensures c.shown_of.ensures

pub returns-clause-err : goal.returns-clause-err
returns-clause-err c =
    let script = c.args.script.now in
    let session = c.args.session in
    let machines = c.as_slice-machines.result.now in
    let bytes = c.as_slice.result.now in
    let posts = c.world.inside.roster.machines in
    let same = ap (λ (w : WorldState). w.roster) c.world.view_is ∙ c.in_ok-world.ensures.roster in
    let here = c.as_slice-machines.ensures.value ∙ ap (λ (w : WorldState). w.machines) c.world.view_is in
    let played = subst (λ (ms : List MachineState). IsPlayed script ms) (sym here) c.in_ok-world.ensures.machines in
    let kept = subst (λ (bs : List ℕ). IsKeptOf session 0 (history (world_of machines) 0) bs)
    (sym c.as_slice.ensures.value) c.in_ok-bytes.ensures in
    on_refusal (λ refusal. GivesAudit posts bytes (Err refusal)) (IsRefusedSo script session)
    (refusal_of c.in-Err.fault)
    (λ refusal is. refused_so script machines session bytes refusal played kept
    (subst (λ (ps : List Post). GivesAudit ps bytes (Err refusal)) same is))
    c.in-Err.ensures.err
