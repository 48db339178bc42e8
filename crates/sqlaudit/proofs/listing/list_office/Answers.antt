use Rattle.std.proofs.Common.{◌≡◌, refl}
use Rattle.sqltables.specs.Inside.{seen}
use Rattle.sqlaudit.specs.Lines.{IsOfficeLine, AreLines, HaveRowids}
use Rattle.sqltables.proofs.Texts.{list_office, list_office_begun}
use Rattle.sqlaudit.proofs.Listed.{as_read, on_read, lines_listed, rowids_listed, unchanged}
use Rattle.sqlaudit.proofs.listing.list_office.Goals as goal

pub returns-clause-listed : goal.returns-clause-listed
returns-clause-listed g c v begun has inside clean =
    let old = seen g.T.Ledger.view c.args.tx.now in
    let new = seen g.T.Ledger.view c.list.new.tx in
    as_read (λ ls. ls.items) IsOfficeLine list_office old new (λ ls. AreLines IsOfficeLine (old.now.trees 0) ls.items) c.list.result (c.list.ensures.read clean)
    (λ ls is_open read.
    lines_listed IsOfficeLine IsOfficeLine v list_office 0 _ _ _ (list_office_begun v.schema begun) old new (has is_open) ls.items read
    (λ row line there is. record { id_is = is.id_is; version_is = is.version_is; east_is = is.east_is }))

pub returns-clause-rowids : goal.returns-clause-rowids
returns-clause-rowids g c v begun has inside clean =
    let old = seen g.T.Ledger.view c.args.tx.now in
    let new = seen g.T.Ledger.view c.list.new.tx in
    on_read (λ ls. ls.items) IsOfficeLine list_office old new (HaveRowids (old.now.trees 0)) c.list.result (c.list.ensures.read clean)
    (λ ls is_open read.
    rowids_listed IsOfficeLine IsOfficeLine v list_office 0 _ _ _ (list_office_begun v.schema begun) old new (has is_open) ls.items read (λ row. refl))

pub returns-clause-same : goal.returns-clause-same
returns-clause-same g c v begun has inside clean =
    let old = seen g.T.Ledger.view c.args.tx.now in
    let new = seen g.T.Ledger.view c.list.new.tx in
    on_read (λ ls. ls.items) IsOfficeLine list_office old new (new.now ≡ old.now) c.list.result (c.list.ensures.read clean)
    (λ ls is_open read.
    (unchanged IsOfficeLine IsOfficeLine v list_office 0 _ _ _ (list_office_begun v.schema begun) old new (has is_open) ls.items read).0.now_is)
