use Rattle.audit_proof.proofs.Imports.{arith, length, refl, slice_get_read, sym, take, take_all, ◌∙◌, ◌≡◌}
use Rattle.audit_proof.proofs.Listings.{line_inside, table_more}
use Rattle.audit_proof.proofs.listing.Listing.make.Goals as goal

pub is_whole_line-requires-clause-listed : goal.is_whole_line-requires-clause-listed
is_whole_line-requires-clause-listed g c =
    (line_inside _ _ c.requires _ _ c.loop-number-test.true c.index-lines-number.is).1

pub is_whole_line-requires-clause-entry : goal.is_whole_line-requires-clause-entry
is_whole_line-requires-clause-entry g c =
    (line_inside _ _ c.requires _ _ c.loop-number-test.true c.index-lines-number.is).0

pub index_mut-requires : goal.index_mut-requires
index_mut-requires g c =
    let inside = line_inside _ _ c.requires _ _ c.loop-number-test.true c.index-lines-number.is in
    omega (arith, inside.0, c.loop-number.invariant.numbers_all, c.entry_of-entry.ensures)

pub index_mut-requires-in-loop-number : goal.index_mut-requires-in-loop-number
index_mut-requires-in-loop-number g c =
    let inside = line_inside _ _ c.requires _ _ c.loop-number-test.true c.index-lines-number.is in
    omega (arith, inside.0, c.loop-number.invariant.wholes_all, c.entry_of-entry.ensures)

pub loop-number-preserved : goal.loop-number-preserved
loop-number-preserved g c =
    let line = c.index-lines-number.result in
    let at = slice_get_read c.args.lines.now (length c.args.lines.now) c.loop-number.number line refl
    c.loop-number-test.true c.index-lines-number.is in
    let inside = line_inside _ _ c.requires _ _ c.loop-number-test.true c.index-lines-number.is in
    rw (c.entry_of-entry.ensures, c.is_whole_line.ensures)
    (table_more _ c.args.lines.now _ c.requires.rises c.loop-number.number line at c.loop-number.numbers.items
    c.loop-number.wholes.items inside.0 c.loop-number.invariant)

pub returns : goal.returns
returns g c =
    let all : take c.loop-number.number c.args.lines.now ≡ c.args.lines.now =
    take_all c.loop-number.number _ (omega (arith, c.loop-number-test.false)) in
    record {
      count = c.loop-number.invariant.numbers_all;
      searchable = record {
        as_many = c.loop-number.invariant.wholes_all ∙ sym c.loop-number.invariant.numbers_all;
        falls = λ k d low. (c.requires.each k d low).begun.falls;
      };
      found = λ x l. rw all at (c.loop-number.invariant.found x l);
      whole = λ x l. rw all at (c.loop-number.invariant.whole x l);
    }
