use Rattle.std.proofs.Common.{rules, ◌≡◌, ◌<◌, ◌∙◌}
use Rattle.cobol_syntax.specs.declared.expr.Expr.{the_lemmas, size-Expr}
use Rattle.program_meaning.specs.Tree as tree
use Rattle.tree_reading.specs.Reading.{read_expr}
use Rattle.storage_sums.specs.declared.chain.Term.TheVariants as term
use Rattle.storage_sums.proofs.ChainLaws.{chained_grows, below_grows}
use Rattle.storage_sums.proofs.chain.chain_of.Goals as goal

pub loop-rest-preserved-in-Minus : goal.loop-rest-preserved-in-Minus
loop-rest-preserved-in-Minus c =
    let is : read_expr c.loop-rest.rest.now ≡ tree.Minus (read_expr c.get-rest.result.now) = search (rules, the_lemmas) in
    let below : 0 < size-Expr c.args.expr.now = search (rules, the_lemmas) in (
      search (rules, the_lemmas),
      chained_grows c.loop-rest.terms.items c.push.new.self.items term.Minus (read_expr c.get-rest.result.now) (read_expr c.loop-rest.rest.now) c.in_ok-push-in-Minus.ensures.items is ∙ c.loop-rest.invariant.1,
      below_grows (size-Expr c.args.expr.now) c.loop-rest.terms.items c.push.new.self.items term.Minus c.in_ok-push-in-Minus.ensures.items c.loop-rest.invariant.2 below,
    )

pub loop-rest-preserved-in-Add : goal.loop-rest-preserved-in-Add
loop-rest-preserved-in-Add c =
    let is : read_expr c.loop-rest.rest.now ≡ tree.Add (read_expr c.get-rest-in-Add.result.now) (read_expr c.get.result.now) = search (rules, the_lemmas) in
    let below : size-Expr c.get.result.now < size-Expr c.args.expr.now = search (rules, the_lemmas) in (
      search (rules, the_lemmas),
      chained_grows c.loop-rest.terms.items c.push-in-Add.new.self.items (term.Add c.get.result) (read_expr c.get-rest-in-Add.result.now) (read_expr c.loop-rest.rest.now) c.in_ok-push-in-Add.ensures.items is ∙ c.loop-rest.invariant.1,
      below_grows (size-Expr c.args.expr.now) c.loop-rest.terms.items c.push-in-Add.new.self.items (term.Add c.get.result) c.in_ok-push-in-Add.ensures.items c.loop-rest.invariant.2 below,
    )

pub loop-rest-preserved-in-Sub : goal.loop-rest-preserved-in-Sub
loop-rest-preserved-in-Sub c =
    let is : read_expr c.loop-rest.rest.now ≡ tree.Sub (read_expr c.get-rest-in-Sub.result.now) (read_expr c.get-in-Sub.result.now) = search (rules, the_lemmas) in
    let below : size-Expr c.get-in-Sub.result.now < size-Expr c.args.expr.now = search (rules, the_lemmas) in (
      search (rules, the_lemmas),
      chained_grows c.loop-rest.terms.items c.push-in-Sub.new.self.items (term.Sub c.get-in-Sub.result) (read_expr c.get-rest-in-Sub.result.now) (read_expr c.loop-rest.rest.now) c.in_ok-push-in-Sub.ensures.items is ∙ c.loop-rest.invariant.1,
      below_grows (size-Expr c.args.expr.now) c.loop-rest.terms.items c.push-in-Sub.new.self.items (term.Sub c.get-in-Sub.result) c.in_ok-push-in-Sub.ensures.items c.loop-rest.invariant.2 below,
    )

pub loop-rest-preserved-in-Mul : goal.loop-rest-preserved-in-Mul
loop-rest-preserved-in-Mul c =
    let is : read_expr c.loop-rest.rest.now ≡ tree.Mul (read_expr c.get-rest-in-Mul.result.now) (read_expr c.get-in-Mul.result.now) = search (rules, the_lemmas) in
    let below : size-Expr c.get-in-Mul.result.now < size-Expr c.args.expr.now = search (rules, the_lemmas) in (
      search (rules, the_lemmas),
      chained_grows c.loop-rest.terms.items c.push-in-Mul.new.self.items (term.Mul c.get-in-Mul.result) (read_expr c.get-rest-in-Mul.result.now) (read_expr c.loop-rest.rest.now) c.in_ok-push-in-Mul.ensures.items is ∙ c.loop-rest.invariant.1,
      below_grows (size-Expr c.args.expr.now) c.loop-rest.terms.items c.push-in-Mul.new.self.items (term.Mul c.get-in-Mul.result) c.in_ok-push-in-Mul.ensures.items c.loop-rest.invariant.2 below,
    )

pub loop-rest-preserved : goal.loop-rest-preserved
loop-rest-preserved c =
    let is : read_expr c.loop-rest.rest.now ≡ tree.Div (read_expr c.get-rest-in-Div.result.now) (read_expr c.get-in-Div.result.now) = search (rules, the_lemmas) in
    let below : size-Expr c.get-in-Div.result.now < size-Expr c.args.expr.now = search (rules, the_lemmas) in (
      search (rules, the_lemmas),
      chained_grows c.loop-rest.terms.items c.push-in-Div.new.self.items (term.Div c.get-in-Div.result) (read_expr c.get-rest-in-Div.result.now) (read_expr c.loop-rest.rest.now) c.in_ok-push-in-Div.ensures.items is ∙ c.loop-rest.invariant.1,
      below_grows (size-Expr c.args.expr.now) c.loop-rest.terms.items c.push-in-Div.new.self.items (term.Div c.get-in-Div.result) c.in_ok-push-in-Div.ensures.items c.loop-rest.invariant.2 below,
    )
