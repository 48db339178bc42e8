-- Why an export ended, and what was done before.
use Rattle.std.specs.Prelude.{List, [], cond, Bool, true, false, Result, Ok, Err, ⊤}
use Rattle.boxes.specs.declared.keep.KeepFault.{KeepFault}
use Rattle.lists.specs.declared.export_fault.ExportFault.{ExportFault}
use Rattle.lists.specs.declared.export_fault.ExportFault.TheVariants as fault

-- the keeper's part of the result
abbrev pub by_keeper : {T : Type 0} → Result T ExportFault → Result ⊤ KeepFault
by_keeper (Err (fault.Keep f)) = Err f
by_keeper _ = Ok tt

-- the part of the writer of `files.csv`
abbrev pub by_files : {T : Type 0} → Result T ExportFault → Result ⊤ ⊤
by_files (Err fault.Files) = Err tt
by_files _ = Ok tt

-- the part of the writer of `SHA256SUMS`
abbrev pub by_sums : {T : Type 0} → Result T ExportFault → Result ⊤ ⊤
by_sums (Err fault.Sums) = Err tt
by_sums _ = Ok tt

-- a fault of the keeper or of memory
abbrev pub IsOfAsking : ExportFault → Type 0
IsOfAsking (fault.Keep f) = ⊤
IsOfAsking fault.Memory = ⊤
IsOfAsking _ = ⊥

-- a fault of the folder or of a writer
abbrev pub IsOfWriting : ExportFault → Type 0
IsOfWriting (fault.Put f) = ⊤
IsOfWriting fault.Files = ⊤
IsOfWriting fault.Sums = ⊤
IsOfWriting _ = ⊥

-- whether the current file was put
abbrev pub was_put : {T : Type 0} → Result T ExportFault → Bool
was_put (Ok done) = true
was_put (Err fault.Files) = true
was_put (Err fault.Sums) = true
was_put (Err _) = false

-- these if the file was put, else nothing
abbrev pub if_put : {T A : Type 0} → Result T ExportFault → List A → List A
if_put result xs = cond (was_put result) xs []
