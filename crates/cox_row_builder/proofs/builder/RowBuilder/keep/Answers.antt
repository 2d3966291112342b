-- The polynomial is within the limit, or has a first coefficient above it.
use Rattle.std.proofs.Common.{◌≡◌, Err, FitsSigned, w64, rules, ap, ◌∙◌, arith}
use Rattle.std.specs.Int.{w128}
use Rattle.std.proofs.lemmas.Int.{to_z-of_z}
use Rattle.cox_base.specs.IntegerMatrix.{integer_matrix}
use Rattle.cox_poly.specs.Polynomial.{coefficient}
use Rattle.cox_context.specs.Numbers.{word_at}
use Rattle.cox_hecke.specs.Row.{IsKazhdanLusztig}
use Rattle.cox_row.specs.Polynomials.{polynomial_at}
use Rattle.cox_row.proofs.RisingNumbers.{rising-few}
use Rattle.cox_row_builder.proofs.NotedMus.{noted-large}
use Rattle.cox_row_builder.proofs.FoundPolynomials.{begun-skip}
use Rattle.cox_row_builder.proofs.LargeCoefficients.{within-none, least-large}
use Rattle.cox_row_builder.proofs.LargeFound.{large-skip}
use Rattle.cox_row_builder.proofs.Shifts.{least-after}
use Rattle.cox_row_builder.proofs.builder.RowBuilder.keep.Goals as goal
use Rattle.cox_row_builder.proofs.builder.RowBuilder.keep.Goals.{in-Ok+in_ok-note-in-Ok, in-Err-TooBig+in_ok-note-in-Err-TooBig}

pub keep-requires-clause-few : goal.keep-requires-clause-few
keep-requires-clause-few c =
    let few = rising-few c.args.self.now.done c.args.self.now.values.extremal.items c.requires.underway.begun.rising
    c.requires.underway.begun.before
    in omega (arith, few, c.requires.underway.begun.polynomials.size, c.requires.underway.begun.polynomials.distinct.few)

pub returns-clause-underway : goal.returns-clause-underway
returns-clause-underway c =
    let A = integer_matrix c.args.ctx.now.matrix
    in let g = c.len-len.ensures.admissible
    in let members = c.args.ctx.now.members
    in let x = word_at members c.args.self.now.done
    in let w = word_at members c.args.i
    in let fits : FitsSigned w64 c.args.limit = search rules
    in let next = least-after A g members c.len-len.ensures.closed c.args.i c.requires.i c.args.self.now.done c.args.self.now.next
    c.requires.extremal c.requires.underway.next
    in let is = c.requires.value
    in elim c.match-keep.branch [
      | in-Ok+in_ok-note-in-Ok v ↦
          let small : FitsSigned w64 v.middle-value.result = search rules
          in let kept = simp (to_z-of_z w64 c.args.limit fits) at (v.in-Ok.ensures.kept A members w)
          in let begun = kept c.requires.underway.begun c.requires.extremal c.requires.below is
          in let placed : IsKazhdanLusztig A x w (coefficient (polynomial_at c.keep.new.self.pool v.in-Ok.place)) = record {
            row = is.row;
            is = is.is;
            at = λ k. v.in-Ok.ensures.polynomial k ∙ is.at k;
          }
          in let at : v.at.result ≡ polynomial_at c.keep.new.self.pool v.in-Ok.place = v.at.ensures
          in let mu = v.middle-value.ensures (rw at placed)
          in rw v.self-is record {
            begun = begun;
            noted = (simp (to_z-of_z w64 v.middle-value.result small) at (v.in_ok-note-in-Ok.ensures A members w c.args.limit)) g
                c.requires.underway.noted mu;
            large = large-skip A members w c.args.limit _ _ c.args.self.now.done
                (λ b. within-none A g c.args.limit x w (polynomial_at c.keep.new.self.pool v.in-Ok.place) placed
                (begun.small v.in-Ok.place v.in-Ok.ensures.within)) c.requires.underway.large;
            next = next;
          }
      | in-Err-TooBig+in_ok-note-in-Err-TooBig v ↦
          let wide : FitsSigned w128 v.in-Err-TooBig.value = search rules
          in let too_big = ap (λ f. Err f) v.in-Err-TooBig.field-0-is
          in let first = simp (to_z-of_z w64 c.args.limit fits) at (v.in-Err-TooBig.ensures.too_big v.in-Err-TooBig.degree
          v.in-Err-TooBig.value too_big)
          in let unchanged = v.in-Err-TooBig.ensures.unchanged v.in-Err-TooBig.degree v.in-Err-TooBig.value too_big
          in let least = least-large A g c.args.limit x w c.args.sums.now is v.in-Err-TooBig.degree v.in-Err-TooBig.value first
          in rw (v.self-is, unchanged) record {
            begun = begun-skip A members w c.args.limit c.args.self.now.done _ _ _
                (λ e b within. within v.in-Err-TooBig.degree v.in-Err-TooBig.value least.large) c.requires.underway.begun;
            noted = noted-large A g members w c.args.limit c.args.self.now.done _ _
                (λ within. within v.in-Err-TooBig.degree v.in-Err-TooBig.value least.large) c.requires.underway.noted;
            large = (simp (to_z-of_z w128 v.in-Err-TooBig.value wide) at (v.in_ok-note-in-Err-TooBig.ensures A members w c.args.limit))
                c.requires.underway.large least;
            next = next;
          }
    ]
