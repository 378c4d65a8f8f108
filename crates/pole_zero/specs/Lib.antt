pub mod PoleZero
