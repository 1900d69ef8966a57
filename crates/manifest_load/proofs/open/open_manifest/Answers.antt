use Rattle.manifest_load.proofs.open.open_manifest.Goals as goal

pub returns-in-Err-clause-refusal : goal.returns-in-Err-clause-refusal
returns-in-Err-clause-refusal g c = c.unloaded.ensures.cause c.args.name.now _ c.in-Err.ensures.cause
