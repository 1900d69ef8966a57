-- What is read, or refused, of the rest is of the whole.
use Rattle.std.proofs.Common.{◌≡◌, List, [], ◌∷◌, ◌++◌, inl, inr, sym, subst, append_assoc}
use Rattle.std.specs.Prelude.{Result, Ok, Err, IfErr, IsErrAnd}
use Rattle.std.proofs.lemmas.List.{append-nil}
use Rattle.cobol_syntax.specs.declared.program.Program.{Program}
use Rattle.copy_origins.specs.declared.books.Book.{Book}
use Rattle.data_layout.specs.declared.item.Layout.{Layout}
use Rattle.program_reader.specs.declared.fault.ReadFault.{ReadFault}
use Rattle.program_reader.specs.declared.fault.ReadFault.TheVariants as fault
use Rattle.program_texts.specs.declared.line.Source.{Source}
use Rattle.program_texts.specs.Programs.{Before, nothing, after, IsMember, AreMembers, IsRefused, AreRefused, HasRefusal}

-- with these programs before the rest, what the rest is the whole is, and what stands against the rest stands against
-- the whole
pub record Goes (books : List Book) (sources : List Source) (before : Before) (rest : List Source) (ps : List Program) (ls : List Layout) : Type 0 where
  pub members : (qs : List Program) (ks : List Layout) → AreMembers books before rest qs ks → AreMembers books nothing sources (ps ++ qs) (ls ++ ks)
  pub refused : (g : ReadFault) → AreRefused books before rest g → AreRefused books nothing sources g

-- a fault that is passed on
pub err_carried : {T : Type 0} (P : ReadFault → Type 0) (result : Result T ReadFault) (f : ReadFault) → IsErrAnd result (λ e. e ≡ f) → P f → IfErr result P
err_carried P (Ok x) f h p = tt
err_carried P (Err e) f h p = subst P (sym h) p

module _ (books : List Book) (sources : List Source) where
  goes_by : (before : Before) (s : Source) (more : List Source) (p : Program) (l : Layout) (ps : List Program) (ls : List Layout)
      → IsMember books before s p l → Goes books sources before (s ∷ more) ps ls → Goes books sources (after before p l) more (ps ++ p ∷ []) (ls ++ l ∷ [])
  goes_by before s more p l ps ls m g = record {
    members = λ qs ks h.
        subst (λ (xs : List Program). AreMembers books nothing sources xs ((ls ++ l ∷ []) ++ ks)) (sym (append_assoc ps (p ∷ []) qs))
        (subst (λ (ys : List Layout). AreMembers books nothing sources (ps ++ p ∷ qs) ys) (sym (append_assoc ls (l ∷ []) ks))
        (g.members (p ∷ qs) (l ∷ ks) (m, h)));
    refused = λ f h. g.refused f (inr (p, l, m, h));
  }

  pub goes_on : (before next : Before) (rest : List Source) (s : Source) (more : List Source) (p : Program) (l : Layout) (ps ps1 : List Program) (ls ls1 : List Layout)
      → rest ≡ s ∷ more → next ≡ after before p l → ps1 ≡ ps ++ p ∷ [] → ls1 ≡ ls ++ l ∷ []
      → IsMember books before s p l → Goes books sources before rest ps ls → Goes books sources next more ps1 ls1
  goes_on before next rest s more p l ps ps1 ls ls1 a b c d m g =
      subst (λ (x : Before). Goes books sources x more ps1 ls1) (sym b)
      (subst (λ (xs : List Program). Goes books sources (after before p l) more xs ls1) (sym c)
      (subst (λ (ys : List Layout). Goes books sources (after before p l) more (ps ++ p ∷ []) ys) (sym d)
      (goes_by before s more p l ps ls m (subst (λ (r : List Source). Goes books sources before r ps ls) a g))))

  pub goes_to_end : (before : Before) (rest : List Source) (ps : List Program) (ls : List Layout) → rest ≡ [] → Goes books sources before rest ps ls → AreMembers books nothing sources ps ls
  goes_to_end before rest ps ls e g =
      let end : Goes books sources before [] ps ls = subst (λ (r : List Source). Goes books sources before r ps ls) e g in
      subst (λ (xs : List Program). AreMembers books nothing sources xs ls) (append-nil ps)
      (subst (λ (ys : List Layout). AreMembers books nothing sources (ps ++ []) ys) (append-nil ls) (end.members [] [] (record {})))

  pub goes_from_start : Goes books sources nothing sources [] []
  goes_from_start = record { members = λ qs ks h. h; refused = λ g h. h }

  -- a fault of the source that comes next
  pub refused_here : (before : Before) (rest : List Source) (s : Source) (more : List Source) (ps : List Program) (ls : List Layout) → rest ≡ s ∷ more
      → Goes books sources before rest ps ls → (f : ReadFault) → IsRefused books before s f → HasRefusal books sources f
  refused_here before rest s more ps ls e g (fault.Refused r) h = g.refused (fault.Refused r) (subst (λ (xs : List Source). AreRefused books before xs (fault.Refused r)) (sym e) (inl h))
  refused_here before rest s more ps ls e g fault.Memory h = record {}
