use Rattle.std.proofs.Common.{◌≡◌, ◌≤◌, ◌-◌, ℕ, List, length, map, drop, ap, sym, ◌∙◌, subst}
use Rattle.std.proofs.lemmas.List.{length-map, drop-map}
use Rattle.cobol_syntax.specs.declared.program.Paragraph.{Paragraph}
use Rattle.tree_reading.specs.Reading.{read_paragraph}
use Rattle.program_meaning.specs.Tree as tree
use Rattle.program_meaning.specs.State.{from_paragraph}
use Rattle.run_control.specs.declared.labels.Label.{Label}
use Rattle.run_control.specs.Program.{paragraphs_of}
use Rattle.run_control.proofs.Named.{Stands, stands, absent}
use Rattle.run_control.proofs.labels.Labels.paragraphs_from.Goals as goal

fits : (n : tree.Name) (ps : List Paragraph) (l : Label) → Stands n (map read_paragraph ps) l → l.left ≤ length ps
fits n ps l s = subst (λ (k : ℕ). l.left ≤ k) (length-map ps read_paragraph) s.within

rest : (n : tree.Name) (ps xs : List Paragraph) (l : Label) → Stands n (map read_paragraph ps) l → xs ≡ drop (length ps - l.left) ps →
    map read_paragraph xs ≡ from_paragraph n (map read_paragraph ps)
rest n ps xs l s e =
    ap (map read_paragraph) e ∙ sym (drop-map read_paragraph (length ps - l.left) ps)
    ∙ ap (λ (k : ℕ). drop (k - l.left) (map read_paragraph ps)) (sym (length-map ps read_paragraph)) ∙ sym s.rest

pub last_of-requires : goal.last_of-requires
last_of-requires c =
    fits c.args.name.now c.args.self.now.paragraphs.now c.in-Some.label
    (stands c.args.name.now (paragraphs_of c.args.self.now) c.in-Some.label (sym (c.args.self.now.found c.args.name.now) ∙ sym c.in-Some.ensures))

pub returns-in-Some : goal.returns-in-Some
returns-in-Some c =
    rest c.args.name.now c.args.self.now.paragraphs.now c.last_of.result.now c.in-Some.label
    (stands c.args.name.now (paragraphs_of c.args.self.now) c.in-Some.label (sym (c.args.self.now.found c.args.name.now) ∙ sym c.in-Some.ensures))
    c.last_of.ensures

pub returns-in-None : goal.returns-in-None
returns-in-None c = sym (absent c.args.name.now (paragraphs_of c.args.self.now) (sym (c.args.self.now.found c.args.name.now) ∙ sym c.in-None.ensures))
