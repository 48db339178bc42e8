use Rattle.std.proofs.Common.{refl}
use Rattle.lists.specs.Asking.{stays_err, stays_ok, stays_unasked}
use Rattle.lists.specs.Manifests.{entry_of, word_of}
use Rattle.lists.proofs.Entries.{told_line}
use Rattle.lists.proofs.comparing.ComparerAnswerer.answer.Goals as goal

pub returns-clause-line : goal.returns-clause-line
returns-clause-line g c w known honest =
    let entry = c.in-Some.entry in
    let found = c.find-found.result in
    let standing = c.in-Ok.ensures.value w known.0 known.1 honest in (
      entry_of entry,
      c.in-Some.ensures.some.0,
      found,
      c.find-found.ensures w standing,
      told_line c.in_ok-entry_line.field-0.items entry.number_text.now c.in-Some.ensures.some.0.number entry.in_box.now entry.name.now c.word.result.now (word_of found)
          c.in_ok-entry_line.ensures.line c.in-Some.ensures.some.1 c.word.ensures,
    )

pub returns-clause-stays : goal.returns-clause-stays
returns-clause-stays g c = (refl, stays_ok _ _ _ c.in-Ok.ensures.rest)

pub returns-in-Err-clause-stays : goal.returns-in-Err-clause-stays
returns-in-Err-clause-stays g c = (refl, stays_err _ _ _ c.in-Err.ensures.rest)

pub returns-in_default-clause-stays : goal.returns-in_default-clause-stays
returns-in_default-clause-stays g c = (refl, stays_unasked _)
