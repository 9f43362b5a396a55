-- What `order` answers over what is left of an honest place's logs.
use Rattle.log_commands.proofs.Imports
use Imports.{absent, Answer, ap, AreAllFilesOf, arith, Completion, Contains, Distinct, election_of, entries_of}
use Imports.{EntryGraph, GivesLogs, GivesRoster, HasLeft, HeldBefore, inl, inr, IsHonestlyRead, IsHonestOrder}
use Imports.{IsHonestWord, IsHonestWorld, IsOfScript, IsOrderAmong, IsOrderAnswer, IsOrderOf, IsOrderOfPlace}
use Imports.{IsOrderOver, IsOrderOverLogs, IsOrderUnder, length, List, LogRead, logs_have_makers, node_of_sealed, Ok}
use Imports.{one_order, Option, OrRefused, Post, read_of_script, read_same, Refusal, refusal_answer, refused}
use Imports.{roster_not_refused, roster_of, RosterRead, Script, script_distinct, script_given, script_not_refused}
use Imports.{script_read, scripts_are_honest, SealedEntry, sent_in, stamps_rise, subst, survivors_have_makers, sym}
use Imports.{World, world_of_script, ℕ, ◌∙◌, ◌≡◌, ◌≢◌}
use Rattle.log_commands.proofs.{EntryTexts.named_has, HonestWords.word_exact, HonestWords.word_in}
use Rattle.log_commands.proofs.{HonestWords.word_known, OrderWords.word_is_settled, PlainSurvivors.is_exact}
use Rattle.command_line.specs.declared.status.Status.TheVariants as status

-- no refusal has the status of a word
refusal_not_done : (refusal : Refusal) → (refusal_answer refusal).status ≢ status.Done
refusal_not_done (absent file) is = let no : status.Absent ≡ status.Done = is in cc
refusal_not_done (refused file place cause) is = let no : status.Refused ≡ status.Done = is in cc

module _ (script : Script) (w : World SealedEntry) (roster : Option (List ℕ)) (files : List (Option (List ℕ)))
    (place : HasLeft script w roster files) (x y : List ℕ) (names : List (List ℕ)) where
  -- the machines of the script
  abbrev posts : List Post
  posts = roster_of script

  -- under their roster the world is of the script
  of : IsOfScript posts (election_of posts) w
  of = world_of_script script place.roster.lawful place.roster.steps w place.roster.comes

  -- the world is honest
  world : IsHonestWorld posts w
  world = scripts_are_honest script place.roster.lawful place.roster.steps w place.roster.comes

  module _ (apart : Distinct node_of_sealed (sent_in w)) (logs : List LogRead) (graph : EntryGraph SealedEntry)
      (read : IsHonestlyRead posts (election_of posts) w names files logs graph) where
    -- of two entries one alone was held before the other, since stamps rise
    no_cycle : (g h : SealedEntry) → HeldBefore w g h → HeldBefore w h g → ⊥
    no_cycle g h first then =
        omega (
          arith,
          stamps_rise node_of_sealed w world.orderly g h first,
          stamps_rise node_of_sealed w world.orderly h g then,
        )

    -- the word printed of two survivors is an honest one: what was sent completes the survivors, and
    -- where all logs are there, there is no gap
    honest_word : (e f : SealedEntry) (answer : Answer) → Contains graph.survivors e → Contains graph.survivors f →
        (order : IsOrderOf graph.survivors e f answer) → IsHonestWord w files e f order.word
    honest_word e f answer has_e has_f order =
        let completed = subst (λ (n : ℕ). Completion node_of_sealed n graph.survivors (sent_in w)) world.one_each
        read.honest.completed in
        let right =
        word_in w e f (one_order node_of_sealed w world.orderly apart) (completed.keeps e has_e)
        (completed.keeps f has_f) (length posts) graph.survivors completed order.word
        (word_is_settled (length posts) graph.survivors e f order.word has_e has_f order.right) in
        record {
          right = right;
          exact = λ whole.
              let no_gap = sym read.gives_graph.2.kept.gaps ∙ (read.honest.all_told (read.all whole)).no_gap in
              word_exact w e f no_cycle order.word
              (word_known w e f graph.survivors no_gap order.word order.right) right;
        }

    -- so what is answered over these survivors is honest
    honest_among : (answer : Answer) → IsOrderAmong posts graph.survivors x y answer →
        IsHonestOrder script w x y names files answer
    honest_among answer among = record {
      logs = logs;
      graph = graph;
      read = read;
      among = among;
      right = λ e f means_e means_f order.
          honest_word e f answer (named_has posts graph.survivors means_e.0 e means_e.2)
          (named_has posts graph.survivors means_f.0 f means_f.2) order;
    }

  -- the answer is honest where it goes on the logs' entries, whose graph isn't refused
  honest_over : (answer : Answer) → Distinct node_of_sealed (sent_in w) → (logs : List LogRead) →
      GivesLogs posts (election_of posts) names files (Ok logs) → IsOrderOver posts x y (entries_of logs) answer →
      IsHonestOrder script w x y names files answer
  honest_over answer apart logs gives (inl (refusal, made, told)) =
      absurd (script_not_refused posts (election_of posts) w of apart names files place.logs logs gives refusal made)
  honest_over answer apart logs gives (inr (graph, made, among)) =
      honest_among apart logs graph
      (script_read posts (election_of posts) w of apart names files place.logs logs gives graph made) answer among

  -- a word over all whole logs shows that they have a graph, and so that digests differ
  shown_over : (answer : Answer) → AreAllFilesOf w files → answer.status ≡ status.Done → (logs : List LogRead) →
      GivesLogs posts (election_of posts) names files (Ok logs) → IsOrderOver posts x y (entries_of logs) answer →
      Distinct node_of_sealed (sent_in w)
  shown_over answer whole done logs gives (inl (refusal, made, told)) =
      absurd (refusal_not_done refusal (sym (ap (λ (a : Answer). a.status) told) ∙ done))
  shown_over answer whole done logs gives (inr (graph, made, among)) =
      script_distinct posts (election_of posts) w of names files whole logs gives graph made

  -- an answer over the logs, of which none is refused, is right of the place
  of_logs : (answer : Answer) → IsOrderOverLogs (read_of_script script place.roster.lawful) x y names files answer →
      IsOrderOfPlace script w x y names files answer
  of_logs answer (inl (refusal, gives, told)) =
      absurd (script_given posts (election_of posts) w of names files place.logs refusal gives)
  of_logs answer (inr (logs, gives, over)) = record {
    honest = λ apart. honest_over answer apart logs gives over;
    shown = λ whole done. shown_over answer whole done logs gives over;
  }

  -- an answer over the files, of which that of the roster isn't refused, is right of the place
  of_files : (name : List ℕ) (answer : Answer) →
      OrRefused (GivesRoster name roster) (λ (read : RosterRead). IsOrderOverLogs read x y names files) answer →
      IsOrderOfPlace script w x y names files answer
  of_files name answer (inl (refusal, gives, told)) =
      absurd (roster_not_refused script w roster place.roster name refusal gives)
  of_files name answer (inr (read, gives, over)) =
      of_logs answer
      (subst (λ (r : RosterRead). IsOrderOverLogs r x y names files answer)
      (read_same script w roster place.roster name read gives) over)

-- an answer over files is exact, and right of each honest place that left them
pub order_right : (roster x y : List ℕ) (names : List (List ℕ)) (file : Option (List ℕ)) (files : List (Option (List ℕ)))
    (answer : Answer) →
    OrRefused (GivesRoster roster file) (λ (read : RosterRead). IsOrderOverLogs read x y names files) answer →
    IsOrderAnswer roster x y names file files answer
order_right roster x y names file files answer right = record {
  right = by right;
  honest = λ script w place. of_files script w file files place x y names roster answer right;
}
  where
    by : OrRefused (GivesRoster roster file) (λ (read : RosterRead). IsOrderOverLogs read x y names files) answer →
        OrRefused (GivesRoster roster file) (λ (read : RosterRead). IsOrderUnder read x y names files) answer
    by (inl why) = inl why
    by (inr (read, gives, over)) = inr (
      read,
      gives,
      record {
        right = over;
        exact = λ graph (found, gives, graphed).
            is_exact _ _ graph
            (survivors_have_makers _ _ graph (logs_have_makers _ _ names files found gives) graphed) graphed;
      },
    )
