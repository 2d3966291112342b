-- One member more, which is listed and marked.
use Rattle.std.proofs.Common.{rules, ◌≡◌, ◌∷◌, ◌++◌, [], true, arith, refl, ap}
use Rattle.cox_lemmas.proofs.PushedItems.{push-length}
use Rattle.cox_base.specs.IntegerMatrix.{integer_matrix}
use Rattle.cox_base.specs.ShortLex.{normal_form}
use Rattle.cox_context.specs.Closed.{Elements}
use Rattle.cox_context.specs.Numbers.{word_at}
use Rattle.cox_context.specs.Spread.{was_added}
use Rattle.cox_context.proofs.ListedMembers.{listed-member, listed-next, marked-push}
use Rattle.cox_context.proofs.UnionSizes.{full-more}
use Rattle.cox_context.proofs.appending.Found.append.Goals as goal

pub returns-then-number-limit-clause-refused : goal.returns-then-number-limit-clause-refused
returns-then-number-limit-clause-refused c =
    let A = integer_matrix c.args.context.now.matrix
    in let words = c.args.context.now.members
    in let more = full-more A words c.len-number.ensures.closed (normal_form A (c.args.s ∷ word_at words c.args.j))
    c.requires.next.none c.args.limit (omega (arith, c.if-number-limit.true, c.len-number.ensures.len))
    in (refl, refl, more)

pub returns-clause-marked : goal.returns-clause-marked
returns-clause-marked c =
    let words = c.args.context.now.members
    in let marks = c.args.self.now.marks.items
    in let numbers = c.args.self.now.numbers.items
    in let y = normal_form (integer_matrix c.args.context.now.matrix) (c.args.s ∷ word_at words c.args.j)
    in let added : c.append.new.self ≡ record { matrix = c.args.context.now.matrix; members = words ++ y ∷ [] } = search rules
    in let members = ap (λ (e : Elements). e.members) added
    in let listed : c.push_reserved.new.self.items ≡ numbers ++ c.len-number.result ∷ [] = search rules
    in let marked : c.push_reserved-2.new.self.items ≡ marks ++ true ∷ [] = search rules
    in rw (members, listed, marked, c.len-number.ensures.len) (marked-push words marks numbers c.requires.marked y c.requires.next.none)

pub returns-clause-found : goal.returns-clause-found
returns-clause-found c =
    let words = c.args.context.now.members
    in let marks = c.args.self.now.marks.items
    in let numbers = c.args.self.now.numbers.items
    in let h = c.requires.marked
    in let y = normal_form (integer_matrix c.args.context.now.matrix) (c.args.s ∷ word_at words c.args.j)
    in let added : c.append.new.self ≡ record { matrix = c.args.context.now.matrix; members = words ++ y ∷ [] } = search rules
    in let members = ap (λ (e : Elements). e.members) added
    in let listed : c.push_reserved.new.self.items ≡ numbers ++ c.len-number.result ∷ [] = search rules
    in rw (members, listed, c.len-number.ensures.len) (was_added (λ t. c.requires.next.none (listed-member words marks numbers h y t))
    (listed-next words marks numbers h y))

pub returns-clause-few : goal.returns-clause-few
returns-clause-few c =
    let words = c.args.context.now.members
    in let y = normal_form (integer_matrix c.args.context.now.matrix) (c.args.s ∷ word_at words c.args.j)
    in let added : c.append.new.self ≡ record { matrix = c.args.context.now.matrix; members = words ++ y ∷ [] } = search rules
    in rw added (omega (arith, push-length words y, c.if-number-limit.false, c.len-number.ensures.len))
