-- The lines of a text: they lie in it, and those of lines that are written one after another are these.
use Rattle.hall_text.specs.{Lines.line_spans, Lines.lines_from, Lines.text_lines, Spans.piece, declared.spans.Span.Span}
use Rattle.std.proofs.Common.{[], ap, append_assoc, arith, Bool, drop, false, length, length-append, List, map, refl}
use Rattle.std.proofs.Common.{sym, take, true, ℕ, ◌++◌, ◌+◌, ◌-◌, ◌∙◌, ◌∷◌, ◌≡◌, ◌≢◌, ◌≤◌}
use Rattle.std.proofs.lemmas.{Bool.le-ltb, Bool.ne_eqb, List.drop_at, List.take_at}
use Rattle.std.proofs.lemmas.List.Elements.{All-cons, All-head, All-nil, All-tail}
use Rattle.std.specs.{List.flat_map, Prelude.All, Prelude.if◌then◌else◌, Prelude.nat_lt, Prelude.◌==◌}

-- the span lies in a text of this length
abbrev pub IsWithin : ℕ → Span → Type 0
IsWithin size s = (s.start ≤ s.end) × (s.end ≤ size)

-- whichever list is taken, a fact of both holds
either : (P : Span → Type 0) (b : Bool) (xs ys : List Span) → All P xs → All P ys → All P (if b then xs else ys)
either P true xs ys x y = x
either P false xs ys x y = y

-- the lines from a place on lie in the text
within_from : (start at size : ℕ) (bytes : List ℕ) → start ≤ at → at + length bytes ≡ size
    → All (IsWithin size) (lines_from start at bytes)
within_from start at size [] order is =
    let P : Span → Type 0 = IsWithin size in
    either P (nat_lt start at) _ _
    (All-cons P (record { start = start; end = at }) [] (order, omega (arith, is)) (All-nil P)) (All-nil P)
within_from start at size (byte ∷ bytes) order is =
    let P : Span → Type 0 = IsWithin size in
    either P (byte == 10) _ _
    (All-cons P (record { start = start; end = at }) _ (order, omega (arith, is))
    (within_from (at + 1) (at + 1) size bytes (omega arith) (omega (arith, is))))
    (within_from start (at + 1) size bytes (omega arith) (omega (arith, is)))

-- the lines lie in the text
pub lines_within : (text : List ℕ) → All (IsWithin (length text)) (line_spans text)
lines_within text = within_from 0 0 (length text) text (omega arith) (omega arith)

-- a byte within a line
abbrev pub IsInLine : ℕ → Type 0
IsInLine byte = byte ≢ 10

-- a line is followed by those after its newline
line_then : (start at : ℕ) (line rest : List ℕ) → All IsInLine line → lines_from start at (line ++ 10 ∷ rest)
    ≡ record { start = start; end = at + length line } ∷ lines_from (at + length line + 1) (at + length line + 1) rest
line_then start at [] rest plain =
    let e : at ≡ at + 0 = omega arith in
    ap (λ (n : ℕ). record { start = start; end = n } ∷ lines_from (n + 1) (n + 1) rest) e
line_then start at (byte ∷ bytes) rest plain =
    let e : at + 1 + length bytes ≡ at + length (byte ∷ bytes) = omega arith in
    rw (ne_eqb byte 10 (All-head IsInLine byte bytes plain))
    (line_then start (at + 1) bytes rest (All-tail IsInLine byte bytes plain)
    ∙ ap (λ (n : ℕ). record { start = start; end = n } ∷ lines_from (n + 1) (n + 1) rest) e)

-- the lines, each with a newline after it
abbrev pub joined : List (List ℕ) → List ℕ
joined lines = flat_map (λ line. line ++ 10 ∷ []) lines

-- the lines that follow a front of the text
pieces_from : (text front : List ℕ) (at : ℕ) (lines : List (List ℕ)) → text ≡ front ++ joined lines → length front ≡ at
    → All (All IsInLine) lines → map (piece text) (lines_from at at (joined lines)) ≡ lines
pieces_from text front at [] is long plain = rw (le-ltb at at (omega arith)) refl
pieces_from text front at (line ∷ lines) is long plain =
    let rest : List ℕ = joined lines in
    let end : ℕ = at + length line in
    let here : Span = record { start = at; end = end } in
    let split : joined (line ∷ lines) ≡ line ++ 10 ∷ rest = append_assoc line (10 ∷ []) rest in
    let whole : text ≡ front ++ (line ++ 10 ∷ rest) = is ∙ ap (λ (bytes : List ℕ). front ++ bytes) split in
    let size : end - at ≡ length line = omega arith in
    let first : piece text here ≡ line =
    ap (λ k. take k (drop at text)) size
    ∙ ap (take (length line)) (ap (drop at) whole ∙ drop_at front (line ++ 10 ∷ rest) at long)
    ∙ take_at line (10 ∷ rest) (length line) refl in
    let others : map (piece text) (lines_from (end + 1) (end + 1) rest) ≡ lines =
    pieces_from text (front ++ (line ++ 10 ∷ [])) (end + 1) lines (is ∙ sym (append_assoc front (line ++ 10 ∷ []) rest))
    (omega (arith, long, length-append front (line ++ 10 ∷ []), length-append line (10 ∷ [])))
    (All-tail (All IsInLine) line lines plain) in
    ap (λ (bytes : List ℕ). map (piece text) (lines_from at at bytes)) split
    ∙ ap (map (piece text)) (line_then at at line rest (All-head (All IsInLine) line lines plain))
    ∙ cc

-- lines without a newline are the lines of the text that they make
pub lines_of_joined : (lines : List (List ℕ)) → All (All IsInLine) lines → text_lines (joined lines) ≡ lines
lines_of_joined lines plain = pieces_from (joined lines) [] 0 lines refl refl plain
