use Rattle.commands.proofs.listing.list.Goals as goal

pub returns-in-Keys-clause-writes : goal.returns-in-Keys-clause-writes
returns-in-Keys-clause-writes g c s means sound honest = rw c.in-Keys.is (c.list_keys.ensures.writes s means sound honest)

pub returns-in-Boxes-clause-writes : goal.returns-in-Boxes-clause-writes
returns-in-Boxes-clause-writes g c s means sound honest = rw c.in-Boxes.is (c.list_boxes.ensures.writes s means sound honest)

pub returns-in-Files-clause-writes : goal.returns-in-Files-clause-writes
returns-in-Files-clause-writes g c s means sound honest = rw c.in-Files.is (c.list_files.ensures.writes s means sound honest)
