use Rattle.entry_format.specs.declared.plain.EntryFault.{EntryFault}
use Rattle.auditor.proofs.Imports.{append_assoc, break_line, end_line, IfOk-weaker, List, log_head_line, log_lines}
use Rattle.auditor.proofs.Imports.{LogRead, refused_lines, string_bytes, ℕ, ◌++◌, ◌≡◌}
use Rattle.auditor.proofs.lines.add_log.Goals as goal

-- four texts, one added after another
four_added : (old a b c d one two three four : List ℕ) → a ≡ old ++ one → b ≡ a ++ two → c ≡ b ++ three →
    d ≡ c ++ four → d ≡ old ++ (one ++ two ++ three ++ four)
four_added old a b c d one two three four p q r s =
    cc (append_assoc old one two, append_assoc old (one ++ two) three, append_assoc old (one ++ two ++ three) four)

-- the lines of a log, by its parts
log_added : (file : List ℕ) (given log : LogRead) (refused : List (ℕ × EntryFault)) (start a b c d : List ℕ) →
    given ≡ log → refused ≡ given.refused → a ≡ start ++ log_head_line file log → b ≡ a ++ refused_lines file refused →
    c ≡ b ++ end_line file given.end → d ≡ c ++ break_line file given.broke → d ≡ start ++ log_lines (file, log)
log_added file given log refused start a b c d same is p q r s =
    four_added start a b c d (log_head_line file log) (refused_lines file log.refused) (end_line file log.end)
    (break_line file log.broke) p (rw (is, same) at q) (rw same at r) (rw same at s)

pub returns : goal.returns
returns c =
    IfOk-weaker c.add_break.result _ _
    (λ done. log_added c.args.file.now _ c.args.log.now _ (string_bytes c.args.lines.now) _ _ _ _ c.log.view_is
    c.as_slice.ensures.value c.in_ok-add_log_line.ensures c.in_ok-add_refused.ensures c.in_ok-add_end.ensures)
    c.add_break.ensures
