use Rattle.std.proofs.Common.{◌≡◌, ℕ, List, Option, length, map, drop, ◌-◌, refl, ap, sym, ◌∙◌, arith}
use Rattle.std.proofs.Math.Seq.{drop-length}
use Rattle.cobol_syntax.specs.declared.program.Paragraph.{Paragraph}
use Rattle.tree_reading.specs.Reading.{read_paragraph}
use Rattle.program_meaning.specs.State.{after_section}
use Rattle.run_control.specs.declared.labels.Label.{Label}
use Rattle.name_tables.specs.Table.{held, with_value}
use Rattle.run_control.specs.Labels.{label_of}
use Rattle.run_control.proofs.Named.{more_found, more_ends}
use Rattle.run_control.proofs.labels.table_of.Goals as goal

pub loop-at-init : goal.loop-at-init
loop-at-init c = record {
  found = λ name. ap (λ (f : List ℕ → Option Label). f name) c.new-table.ensures ∙ sym (ap (λ (ps : List Paragraph). label_of name (map read_paragraph ps)) (drop-length c.args.paragraphs.now));
  ends = sym (ap (λ (ps : List Paragraph). after_section (map read_paragraph ps)) (drop-length c.args.paragraphs.now));
  within = omega arith;
}

pub loop-at-preserved : goal.loop-at-preserved
loop-at-preserved c =
    let found = c.loop-at.invariant.found in
    let ends : c.loop-at.section_end ≡ after_section (map read_paragraph (drop c.loop-at.at c.args.paragraphs.now)) = c.loop-at.invariant.ends in
    record {
      found = λ name.
          ap (λ (f : List ℕ → Option Label). f name) c.in_ok-put.ensures
          ∙ ap (λ (n : List ℕ). with_value (held c.loop-at.table) n (record { left = length c.args.paragraphs.now - (c.loop-at.at - 1); after = c.range_end-after.result }) name) c.items.ensures
          ∙ more_found c.args.paragraphs.now c.loop-at.at c.index-paragraphs-at.result (omega arith) c.loop-at.invariant.within c.index-paragraphs-at.is
          (held c.loop-at.table) (length c.args.paragraphs.now - (c.loop-at.at - 1)) c.loop-at.section_end c.range_end-after.result refl ends c.range_end-after.ensures found name;
      ends = c.section_end_before-section_end.ensures
          ∙ more_ends c.args.paragraphs.now c.loop-at.at c.index-paragraphs-at.result (omega arith) c.loop-at.invariant.within c.index-paragraphs-at.is
          (length c.args.paragraphs.now - (c.loop-at.at - 1)) c.loop-at.section_end refl ends;
      within = omega arith;
    }
