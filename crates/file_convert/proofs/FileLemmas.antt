-- Files whose records are converted one by one.
use Rattle.std.proofs.Common.{◌≡◌, ℕ, ◌+◌, ◌-◌, ◌*◌, ◌/◌, ◌<◌, ◌≤◌, Bool, true, false, inl, inr, List, [], ◌∷◌, ◌++◌, length, take, drop, Option, Some, None, sym, ap, ◌∙◌, subst, arith, append_assoc, append-nil}
use Rattle.std.specs.Option.{option_map}
use Rattle.std.specs.Prelude.{IfSome, Result, Ok, Err, IfErr, IsErrAnd}
use Rattle.std.specs.FinMap.{insert}
use Rattle.std.proofs.Math.Nat.{mul-le-mul_right}
use Rattle.std.proofs.lemmas.Nat.{le-div, div-mul-add}
use Rattle.std.proofs.lemmas.List.{take-append-drop}
use Rattle.shelf.specs.Contents.{Files, bytes_of, appended, MayHaveAppended}
use Rattle.shelf.specs.declared.errors.ShelfErr.{ShelfErr}
use Rattle.shelf.specs.declared.errors.ShelfErr.TheVariants as shelf_errors
use Rattle.year_image.specs.Image.{image, IsTame}
use Rattle.byte_lists.specs.Records.{records}
use Rattle.year_image.specs.Files.{images, AreTame}
use Rattle.byte_lists.proofs.RecordLaws.{records-append, records-more}
use Rattle.year_image.proofs.FileLemmas.{images-append, tame-both}
use Rattle.file_convert.specs.Cuts.{pieces}
use Rattle.file_convert.specs.Files.{record_at, IsTameUpTo, IsTameFile, IsNext, front_image, file_image, with_front, with_image, HasSize}
use Rattle.file_convert.specs.Faults.{HasFaultAfter, HasConvertFault, HasLeft, IsFrontOf, MayHaveBegun, fault_of}
use Rattle.file_convert.specs.declared.cut.Cuts.{Cuts}
use Rattle.file_convert.specs.declared.fault.ConvertFault.{ConvertFault}
use Rattle.file_convert.specs.declared.fault.ConvertFault.TheVariants.{Untame, PartialRecord, Shelf, Memory}
use Rattle.file_convert.proofs.MapLemmas.{bytes_of-set, bytes_of-other, insert_twice}

-- a fault that is passed on
pub err_carried : {T E : Type 0} (P : E → Type 0) (result : Result T E) (fault : E) → IsErrAnd result (λ e. e ≡ fault) → P fault → IfErr result P
err_carried P (Ok x) fault h p = tt
err_carried P (Err e) fault h p = subst P (sym h) p

module _ (cuts : Cuts) where
  -- one record more
  pub tame-more : (k : ℕ) (bs : List ℕ) → IsTameUpTo cuts k bs → IsTame 48 (pieces cuts) (record_at cuts k bs) → IsTameUpTo cuts (k + 1) bs
  tame-more k bs h t =
      let P : List (List ℕ) → Type 0 = λ l. AreTame (pieces cuts) l in
      subst P (sym (records-more cuts.length k bs)) (tame-both (pieces cuts) (records cuts.length k bs) (record_at cuts k bs ∷ []) h (t, tt))

  pub front-more : (k : ℕ) (bs : List ℕ) → front_image cuts (k + 1) bs ≡ front_image cuts k bs ++ image 48 (pieces cuts) (record_at cuts k bs)
  front-more k bs =
      ap (images (pieces cuts)) (records-more cuts.length k bs)
      ∙ images-append (pieces cuts) (records cuts.length k bs) (record_at cuts k bs ∷ [])
      ∙ ap (λ (l : List ℕ). front_image cuts k bs ++ l) (append-nil (image 48 (pieces cuts) (record_at cuts k bs)))

  -- the images of the first records are a front of the image of the file
  pub front-of : (k : ℕ) (bs : List ℕ) → 1 ≤ cuts.length → k * cuts.length ≤ length bs → IsFrontOf (front_image cuts k bs) (file_image cuts bs)
  front-of k bs one h =
      let count = length bs / cuts.length in
      let le : k ≤ count = le-div k (length bs) cuts.length one h in
      let e : count ≡ k + (count - k) = omega (arith, le) in
      let rest = images (pieces cuts) (records cuts.length (count - k) (drop (k * cuts.length) bs)) in (
        rest,
        ap (λ n. images (pieces cuts) (records cuts.length n bs)) e
            ∙ ap (images (pieces cuts)) (records-append cuts.length k (count - k) bs)
            ∙ images-append (pieces cuts) (records cuts.length k bs) (records cuts.length (count - k) (drop (k * cuts.length) bs)),
      )

  -- with a front of the image of one record more
  pub front-next : (k m : ℕ) (bs : List ℕ) → 1 ≤ cuts.length → (k + 1) * cuts.length ≤ length bs → IsFrontOf (front_image cuts k bs ++ take m (image 48 (pieces cuts) (record_at cuts k bs))) (file_image cuts bs)
  front-next k m bs one h =
      let grown = image 48 (pieces cuts) (record_at cuts k bs) in
      let front = front_image cuts k bs in
      let more = front-of (k + 1) bs one h in (
        drop m grown ++ more.0,
        more.1
            ∙ ap (λ (l : List ℕ). l ++ more.0) (front-more k bs ∙ ap (λ (l : List ℕ). front ++ l) (sym (take-append-drop m grown)) ∙ sym (append_assoc front (take m grown) (drop m grown)))
            ∙ append_assoc (front ++ take m grown) (drop m grown) more.0,
      )

  -- the whole records of a file
  pub whole-image : (k left : ℕ) (bs : List ℕ) → length bs ≡ k * cuts.length + left → left < cuts.length → file_image cuts bs ≡ front_image cuts k bs
  whole-image k left bs e l = ap (λ n. front_image cuts n bs) (ap (λ n. n / cuts.length) e ∙ div-mul-add k cuts.length left l)

  -- of a file of so many bytes that no record is left of
  pub no_more : (k : ℕ) (bs : List ℕ) → k * cuts.length ≤ length bs → length bs ≤ k * cuts.length → IsTameUpTo cuts k bs → IsTameFile cuts bs k
  no_more k bs h l t = (omega (arith, h, l), t)

  pub next-true : (k : ℕ) (bs img : List ℕ) (whole : Bool) → whole ≡ true → IsNext cuts k bs img whole → IsNext cuts k bs img true
  next-true k bs img true e h = h
  next-true k bs img false e h = absurd (cc)

  pub next-false : (k : ℕ) (bs img : List ℕ) (whole : Bool) → whole ≡ false → IsNext cuts k bs img whole → IsNext cuts k bs img false
  next-false k bs img false e h = h
  next-false k bs img true e h = absurd (cc)

  module _ (name : List ℕ) where
    -- the first records are there, and tame
    abbrev pub IsTameFront : ℕ → Option Files → Type 0
    IsTameFront k told = IfSome told (λ files. (k * cuts.length ≤ length (bytes_of files name)) × IsTameUpTo cuts k (bytes_of files name))

    abbrev pub IsNextTold : ℕ → Option Files → List ℕ → Bool → Type 0
    IsNextTold k told img whole = IfSome told (λ files. IsNext cuts k (bytes_of files name) img whole)

    -- a record more is tame
    pub tame-next : (k : ℕ) (img : List ℕ) (whole : Bool) (start : Option Files) → whole ≡ true → IsTameFront k start → IsNextTold k start img whole → IsTameFront (k + 1) start
    tame-next k img whole None e t n = tt
    tame-next k img whole (Some files) e t n =
        let bs = bytes_of files name in
        let next = next-true k bs img whole e n in
        (next.0, tame-more k bs t.1 next.1)

    module _ (to : List ℕ) (apart : name ≡ to → ⊥) where
      -- the other file has the images of the first records
      abbrev pub IsHeld : ℕ → Option Files → Option Files → Type 0
      IsHeld k start told = told ≡ option_map (with_front cuts name to k) start

      -- what is said of the file that is read is said of it before
      pub bytes_told : (P : List ℕ → Type 0) (k : ℕ) (start told : Option Files) → IsHeld k start told → IfSome told (λ files. P (bytes_of files name)) → IfSome start (λ files. P (bytes_of files name))
      bytes_told P k None told e h = tt
      bytes_told P k (Some files) told e h =
          let Q : Option Files → Type 0 = λ o. IfSome o (λ fs. P (bytes_of fs name)) in
          subst P (bytes_of-other files to (front_image cuts k (bytes_of files name)) name apart) (subst Q e h)

      pub told_bytes : (P : List ℕ → Type 0) (k : ℕ) (start told : Option Files) → IsHeld k start told → IfSome start (λ files. P (bytes_of files name)) → IfSome told (λ files. P (bytes_of files name))
      told_bytes P k None told e h = let Q : Option Files → Type 0 = λ o. IfSome o (λ fs. P (bytes_of fs name)) in subst Q (sym e) tt
      told_bytes P k (Some files) told e h =
          let Q : Option Files → Type 0 = λ o. IfSome o (λ fs. P (bytes_of fs name)) in
          subst Q (sym e) (subst P (sym (bytes_of-other files to (front_image cuts k (bytes_of files name)) name apart)) h)

      -- the fault of the next record is one of the file
      pub convert-fault : (k : ℕ) (start : Option Files) (fault : ConvertFault) → IsTameFront k start → IfSome start (λ files. HasFaultAfter cuts k (bytes_of files name) fault) → IfSome start (λ files. HasConvertFault cuts (bytes_of files name) fault)
      convert-fault k None fault t h = tt
      convert-fault k (Some files) fault t h = (k, t.1, h)

      -- what a fault of the next record leaves
      pub convert-left : (k : ℕ) (start told : Option Files) (fault : ConvertFault) → 1 ≤ cuts.length → IsHeld k start told → IsTameFront k start → IfSome start (λ files. HasFaultAfter cuts k (bytes_of files name) fault) → HasLeft cuts name to start told fault
      convert-left k None told (Untame row offset untame) one e t h = e
      convert-left k None told (PartialRecord left) one e t h = e
      convert-left k None told (Shelf written) one e t h = inl e
      convert-left k None told Memory one e t h = inl e
      convert-left k (Some files) told (Untame row offset untame) one e t h =
          let same : k ≡ row - 1 = omega (arith, h.0) in
          e ∙ ap (λ n. Some (with_front cuts name to n files)) same
      convert-left k (Some files) told (PartialRecord left) one e t h = e ∙ ap (λ (l : List ℕ). Some (insert files to l)) (sym (whole-image k left (bytes_of files name) h.0 h.2))
      convert-left k (Some files) told (Shelf written) one e t h = inr (front_image cuts k (bytes_of files name), front-of k (bytes_of files name) one t.0, e)
      convert-left k (Some files) told Memory one e t h = inr (front_image cuts k (bytes_of files name), front-of k (bytes_of files name) one t.0, e)

      -- the files with one record more
      appended-front : (k : ℕ) (files : Files) (img : List ℕ) → img ≡ image 48 (pieces cuts) (record_at cuts k (bytes_of files name)) → appended to img (with_front cuts name to k files) ≡ with_front cuts name to (k + 1) files
      appended-front k files img e =
          let bs = bytes_of files name in
          let front = front_image cuts k bs in
          ap (λ (l : List ℕ). insert (insert files to front) to (l ++ img)) (bytes_of-set files to front)
          ∙ insert_twice files to front (front ++ img)
          ∙ ap (λ (l : List ℕ). insert files to (front ++ l)) e
          ∙ ap (λ (l : List ℕ). insert files to l) (sym (front-more k bs))

      -- the files with a front of one record more
      appended-part : (k m : ℕ) (files : Files) (img : List ℕ) → img ≡ image 48 (pieces cuts) (record_at cuts k (bytes_of files name)) → appended to (take m img) (with_front cuts name to k files) ≡ insert files to (front_image cuts k (bytes_of files name) ++ take m (image 48 (pieces cuts) (record_at cuts k (bytes_of files name))))
      appended-part k m files img e =
          let bs = bytes_of files name in
          let front = front_image cuts k bs in
          ap (λ (l : List ℕ). insert (insert files to front) to (l ++ take m img)) (bytes_of-set files to front)
          ∙ insert_twice files to front (front ++ take m img)
          ∙ ap (λ (l : List ℕ). insert files to (front ++ take m l)) e

      pub held-next : (k : ℕ) (img : List ℕ) (whole : Bool) (start told now : Option Files) → whole ≡ true → IsHeld k start told → IsNextTold k start img whole → now ≡ option_map (appended to img) told → IsHeld (k + 1) start now
      held-next k img whole None told now e held n a = a ∙ ap (option_map (appended to img)) held
      held-next k img whole (Some files) told now e held n a =
          let next = next-true k (bytes_of files name) img whole e n in
          a ∙ ap (option_map (appended to img)) held ∙ ap Some (appended-front k files img next.2)

      -- what a failed addition leaves
      pub append-left : (k : ℕ) (img : List ℕ) (whole : Bool) (start told now : Option Files) (error : ShelfErr) → 1 ≤ cuts.length → whole ≡ true → IsHeld k start told → IsTameFront k start → IsNextTold k start img whole → MayHaveAppended to img told now → HasLeft cuts name to start now (fault_of error true)
      append-left k img whole start told now error one e held t n a = left_of error (begun start held t n a)
        where
          left_of : (error : ShelfErr) → MayHaveBegun cuts name to start now → HasLeft cuts name to start now (fault_of error true)
          left_of shelf_errors.Failed h = h
          left_of shelf_errors.Memory h = h

          begun : (start : Option Files) → IsHeld k start told → IsTameFront k start → IsNextTold k start img whole → MayHaveAppended to img told now → MayHaveBegun cuts name to start now
          begun None held t n (inl same) = inl (same ∙ held)
          begun None held t n (inr more) = inl (more.2 ∙ ap (option_map (appended to (take more.0 img))) held)
          begun (Some files) held t n (inl same) = inr (front_image cuts k (bytes_of files name), front-of k (bytes_of files name) one t.0, same ∙ held)
          begun (Some files) held t n (inr more) =
              let bs = bytes_of files name in
              let next = next-true k bs img whole e n in
              inr (
                front_image cuts k bs ++ take more.0 (image 48 (pieces cuts) (record_at cuts k bs)),
                front-next k more.0 bs one next.0,
                more.2 ∙ ap (option_map (appended to (take more.0 img))) held ∙ ap Some (appended-part k more.0 files img next.2),
              )

      -- the end of the file
      pub held-whole : (k : ℕ) (start told : Option Files) → 1 ≤ cuts.length → IsHeld k start told → IfSome start (λ files. IsTameFile cuts (bytes_of files name) k) → told ≡ option_map (with_image cuts name to) start
      held-whole k None told one held h = held
      held-whole k (Some files) told one held h =
          let e : length (bytes_of files name) ≡ k * cuts.length + 0 = omega (arith, h.0) in
          held ∙ ap (λ (l : List ℕ). Some (insert files to l)) (sym (whole-image k 0 (bytes_of files name) e one))

    pub tame_file : (k : ℕ) (img : List ℕ) (whole : Bool) (start : Option Files) → whole ≡ false → IsTameFront k start → IsNextTold k start img whole → IfSome start (λ files. IsTameFile cuts (bytes_of files name) k)
    tame_file k img whole None e t n = tt
    tame_file k img whole (Some files) e t n = no_more k (bytes_of files name) t.0 (next-false k (bytes_of files name) img whole e n) t.1

    -- past the last record
    pub tame_end : (k size rows : ℕ) (start : Option Files) → rows ≤ k → size ≤ rows * cuts.length → HasSize size name start → IsTameFront k start → IfSome start (λ files. IsTameFile cuts (bytes_of files name) k)
    tame_end k size rows None l c s t = tt
    tame_end k size rows (Some files) l c s t =
        let le : rows * cuts.length ≤ k * cuts.length = mul-le-mul_right cuts.length l in
        no_more k (bytes_of files name) t.0 (omega (arith, le, c, s)) t.1
