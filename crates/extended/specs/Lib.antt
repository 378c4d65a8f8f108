pub mod Extended
