mod Contents
