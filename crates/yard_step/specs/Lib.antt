pub mod StepLeaves
