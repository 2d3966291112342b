-- The table of command words, which are read exactly.
use Rattle.std.specs.Prelude.{ℕ, List, [], ◌∷◌, Option, find, codes}
use Rattle.std.specs.Str.{bytes_eq}
use Rattle.cox_command.specs.declared.inquiry.RowKind.TheVariants.{Klbasis, Ihbetti, Extremals}
use Rattle.cox_command.specs.declared.inquiry.OneWord.TheVariants.{Compute, Length, Inverse, Descent, Coatoms, Betti, OfRow, Cert, Module}
use Rattle.cox_command.specs.declared.inquiry.NoWord.TheVariants.{Lwgraph, Rwgraph, Lcells, Rcells, Lrcells}
use Rattle.cox_command.specs.declared.inquiry.EntryKind.TheVariants.{Pol, Mu}
use Rattle.cox_command.specs.declared.inquiry.TwoWord.TheVariants.{Inorder, Interval, Rpol, OfEntry, Invpol}
use Rattle.cox_command.specs.declared.command_word.CommandWord.{CommandWord}
use Rattle.cox_command.specs.declared.command_word.CommandWord.TheVariants.{Named, Matrix, Quit, Jobs, One, Two, Plain, Work}

-- the word of each command
abbrev pub command_text : CommandWord → List ℕ
command_text Named = codes "type"
command_text Matrix = codes "matrix"
command_text Quit = codes "quit"
command_text Jobs = codes "jobs"
command_text (One Compute) = codes "compute"
command_text (One Length) = codes "length"
command_text (One Inverse) = codes "inverse"
command_text (One Descent) = codes "descent"
command_text (One Coatoms) = codes "coatoms"
command_text (One Betti) = codes "betti"
command_text (One (OfRow Klbasis)) = codes "klbasis"
command_text (One (OfRow Ihbetti)) = codes "ihbetti"
command_text (One (OfRow Extremals)) = codes "extremals"
command_text (One Cert) = codes "cert"
command_text (One Module) = codes "module"
command_text (Two Inorder) = codes "inorder"
command_text (Two Interval) = codes "interval"
command_text (Two Rpol) = codes "rpol"
command_text (Two (OfEntry Pol)) = codes "pol"
command_text (Two (OfEntry Mu)) = codes "mu"
command_text (Two Invpol) = codes "invpol"
command_text (Plain Lwgraph) = codes "lwgraph"
command_text (Plain Rwgraph) = codes "rwgraph"
command_text (Plain Lcells) = codes "lcells"
command_text (Plain Rcells) = codes "rcells"
command_text (Plain Lrcells) = codes "lrcells"
command_text Work = codes "work"

-- all of them
abbrev pub commands : List CommandWord
commands = Named ∷ Matrix ∷ Quit ∷ Jobs
    ∷ One Compute ∷ One Length ∷ One Inverse ∷ One Descent ∷ One Coatoms ∷ One Betti
    ∷ One (OfRow Klbasis) ∷ One (OfRow Ihbetti) ∷ One (OfRow Extremals) ∷ One Cert ∷ One Module
    ∷ Two Inorder ∷ Two Interval ∷ Two Rpol ∷ Two (OfEntry Pol) ∷ Two (OfEntry Mu) ∷ Two Invpol
    ∷ Plain Lwgraph ∷ Plain Rwgraph ∷ Plain Lcells ∷ Plain Rcells ∷ Plain Lrcells ∷ Work ∷ []

-- the command that a token names, if it names one: the one whose word it is
abbrev pub command_word_of : List ℕ → Option CommandWord
command_word_of token = find (λ command. bytes_eq token (command_text command)) commands
