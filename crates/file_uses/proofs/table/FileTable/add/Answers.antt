use Rattle.std.proofs.Common.{List, [], ◌∷◌, ◌++◌, map, ap, sym, ◌∙◌}
use Rattle.data_layout.specs.declared.portfolio.FileUse.{FileUse}
use Rattle.file_uses.specs.Names.{name_by}
use Rattle.file_uses.specs.Table.{file_name, index_of}
use Rattle.file_uses.proofs.InTable.{names_stay, with_there, with_new}
use Rattle.file_uses.proofs.table.FileTable.add.Goals as goal

pub returns-in_ok-add_area-in-Some-clause-table : goal.returns-in_ok-add_area-in-Some-clause-table
returns-in_ok-add_area-in-Some-clause-table c =
    c.requires ∙ sym (names_stay c.args.self.now.files.items c.in-Some.index c.args.found.now.place) ∙ ap (map file_name) (sym c.in_ok-add_area-in-Some.ensures)

pub returns-in_ok-add_area-in-Some-clause-files : goal.returns-in_ok-add_area-in-Some-clause-files
returns-in_ok-add_area-in-Some-clause-files c =
    c.in_ok-add_area-in-Some.ensures
    ∙ sym (with_there (name_by c.args.known.now) c.args.found.now c.args.self.now.files.items c.in-Some.index
    (ap (index_of c.args.self.now.files.items) (sym c.items.ensures) ∙ sym c.index_of.ensures.index ∙ c.in-Some.is))

pub returns-in_ok-add_file-in-None-clause-files : goal.returns-in_ok-add_file-in-None-clause-files
returns-in_ok-add_file-in-None-clause-files c =
    c.in_ok-add_file-in-None.ensures.files
    ∙ ap (λ (f : FileUse). c.args.self.now.files.items ++ f ∷ []) c.in_ok-file-in-None.ensures
    ∙ sym (with_new (name_by c.args.known.now) c.args.found.now c.args.self.now.files.items
    (ap (index_of c.args.self.now.files.items) (sym c.items.ensures) ∙ sym c.index_of.ensures.index ∙ c.in-None.is))
